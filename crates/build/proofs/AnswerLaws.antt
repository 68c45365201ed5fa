-- What `is_none` and `ok_or` tell of an Option that a call answered. Assumes nothing.
use mathlib.Core.Path.{◌≡◌, refl, sym, ap, ◌∙◌}
use mathlib.Core.Bool.{Bool, true, not}
use Rattle.std.specs.Prelude.{Option, Some, None, Result, Ok, Err, ok_or}
use Rattle.std.specs.Option.{is_some}

-- there is none where `is_none` holds
pub none_when : {A : Type 0} (r : Option A) {b : Bool} → is_some r ≡ not b → b ≡ true → r ≡ None
none_when None e h = refl
none_when (Some a) e h = cc

-- the refusal at the exit of `o.ok_or(e)?` is e
pub refused_of :
    {T U E : Type 0} (o : Option T) {q : Result T E} {r : Result U E} {e x y : E} →
    q ≡ ok_or o e → q ≡ Err y → r ≡ Err x → x ≡ y → r ≡ Err e
refused_of None v w a b = cc
refused_of (Some t) v w a b = cc
