-- The definitions of `best_reply`. The text of an answer of best in a lent buffer: the line, the term's text, a newline.
pub mod Text
