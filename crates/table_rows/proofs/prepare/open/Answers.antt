-- `prepare::open` meets its contract: the root, then for a class the rows. Assumes nothing.
use Prim.{tt}
use Prim.Native.Nat.{ℕ}
use mathlib.Core.Path.{◌≡◌, sym, ap, ◌∙◌}
use Rattle.std.specs.Prelude.{Option, Some}
use Rattle.file_rules.specs.Table.{Table}
use Rattle.table_rows.specs.declared.prepare.Root.{Root}
use Rattle.table_rows.specs.Rooted.{root_of}
use native.Mathlib.Omega.{arith}
use Rattle.table_rules.proofs.Rules.CoverLaws.{one_below}
use Rattle.table_rows.proofs.prepare.RootLaws.{root-sort}
use Rattle.table_rows.proofs.prepare.open.Goals as goal

-- the root that was looked up
root-is :
    {r : Option Root} {x y : Root} (t : Table) (s v : ℕ) →
    r ≡ Some x → x ≡ y → r ≡ root_of t s v → Some y ≡ root_of t s v
root-is t s v e d h = ap Some (sym d) ∙ sym e ∙ h

pub flatten-laid-requires : goal.flatten-laid-requires
flatten-laid-requires c =
    let p = c.requires.some in
    let e = root-is p.table _ _ c.in_ok-root.was c.in-Class.is (c.root_of.ensures p.table p.is.sorts_stand) in
    let l = root-sort p.table c.args.sort c.args.value _ e in
    record {
      some = record { table = p.table; is = p.is.stands };
      within = one_below c.args.counts.sorts c.args.sort (omega (arith, l, p.is.sorts_stand.sorts_are));
      space = c.requires.space;
    }

pub returns-in_err-root : goal.returns-in_err-root
returns-in_err-root c t h =
    rw c.from_residual.ensures
    (record {
      root_is = sym c.in_err-root.was ∙ c.root_of.ensures t h.sorts_stand;
      reached = tt;
    })

pub returns-in-Literal : goal.returns-in-Literal
returns-in-Literal c t h =
    record {
      root_is = root-is t _ _ c.in_ok-root.was c.in-Literal.is (c.root_of.ensures t h.sorts_stand);
      reached = tt;
    }

pub returns-in-Class : goal.returns-in-Class
returns-in-Class c t h =
    record {
      root_is = root-is t _ _ c.in_ok-root.was c.in-Class.is (c.root_of.ensures t h.sorts_stand);
      reached = c.flatten-laid.ensures t h.stands;
    }
