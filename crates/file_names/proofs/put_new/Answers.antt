-- `file_names::put_new` meets its contract: the search decides. Assumes nothing.
use mathlib.Core.Path.{refl}
use Rattle.bits.specs.Got.{pick}
use Rattle.file_names.specs.Name.{is_free, is_missing}
use Rattle.file_names.proofs.put_new.Goals as goal

pub returns-in-Some : goal.returns-in-Some
unfolding is_free is_missing pick
returns-in-Some c =
    record {
      value = rw (← c.find.ensures, c.in-Some.is);
      entries_after = refl;
    }

pub returns-in-None : goal.returns-in-None
unfolding is_free is_missing pick
returns-in-None c =
    record {
      value = rw (
        ← c.find.ensures,
        c.in-None.is,
      );
      entries_after = c.put.ensures;
    }
