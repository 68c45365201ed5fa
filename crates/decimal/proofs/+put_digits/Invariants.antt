-- The recursion of `decimal::put_digits` falls with the number itself.
use Rattle.decimal.proofs.+put_digits.Given as goal

abbrev pub decreases-put_digits : goal.decreases-put_digits
decreases-put_digits l = l.x
