-- The recursion of `decimal::digits_length` falls with the number itself.
use Rattle.decimal.proofs.+digits_length.Given as goal

abbrev pub decreases-digits_length : goal.decreases-digits_length
decreases-digits_length l = l.x
