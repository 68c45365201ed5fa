-- The five theorems, each from the promise page below it. Assumes nothing.
use mathlib.Core.Path.{◌≡◌, sym, subst}
use mathlib.Core.Bool.{true}
use mathlib.Core.Logic.{◌↔◌}
use Prim.Native.Nat.{ℕ, ◌<◌}
use Rattle.term_rules.specs.Lent.{Store}
use Rattle.term_rules.specs.WellFormed.{well_formed}
use Rattle.term_rules.specs.Nodes.{Tree, Means}
use Rattle.file.proofs.Promises as file
use Rattle.term.proofs.Promises as term
use Rattle.text.proofs.Promises as text
use Rattle.extract.proofs.Promises as extract
use Rattle.program.proofs.Promises as program
use Rattle.theorems.specs.Main.{Main}

one_number :
    (s : Store) (i j : ℕ) (t u : Tree) →
    well_formed s ≡ true →
    i < s.terms →
    j < s.terms →
    Means s i t →
    Means s j u →
    (i ≡ j) ↔ (t ≡ u)
one_number s i j t u w h k p q = (
  λ (e : i ≡ j). (term.promises).one_term s j t u (subst (λ (n : ℕ). Means s n t) e p) q,
  λ (e : t ≡ u). (term.promises).one_number s i j t w h k p (subst (λ (x : Tree). Means s j x) (sym e) q),
)

pub theorems : Main
theorems = record {
  read = λ s t. (
    λ h. ((file.promises).accepted s t h, (file.promises).file_is_code s t h),
    λ x. (file.promises).code_is_file s t x.0 x.1,
  );
  one_number = one_number;
  texts = λ s s' i j t nm a b p q. (
    (text.promises).plain_tree s s' i j t a b p q,
    ((text.promises).let_tree s s' i j t nm a b p q).0,
  );
  demand_three = λ file root v t s r w. record {
    no_term = (extract.promises).no_term file root v t s r w;
    too_dear = (extract.promises).too_dear file root v t s r w;
    comes_back = (extract.promises).comes_back file root v t s r w;
    no_room = (extract.promises).no_room file root v t s r w;
    no_other = (extract.promises).numbers file root v t s r w;
  };
  program = (program.promises).responds;
}
