-- `term_one::application` meets its contract: the name and the count are checked, the children settled. Assumes
-- nothing.
use Prim.Native.Nat.{ℕ}
use mathlib.Core.Path.{sym, ap, ◌∙◌}
use mathlib.Core.List.{List, map}
use lib.ListN.{take}
use Rattle.term_add.specs.Held.{held}
use Rattle.term_rules.specs.Nodes.{application}
use Rattle.term.specs.Calls.{application_faults, add_application}
use Rattle.term.proofs.CallLaws.{adding-refuses}
use Rattle.term_one.specs.Wanted.{child_number, kids_of}
use Rattle.term_one.proofs.AskedLaws.{applied-name, applied-size, counted-few, counted-many}
use Rattle.term_one.proofs.application.Goals as goal

pub returns-then-not-is_valid-clause-added : goal.returns-then-not-is_valid-clause-added
unfolding add_application
returns-then-not-is_valid-clause-added c =
    let g = c.args in
    let s = held g.store.now in
    let ks : List ℕ = map (child_number (take g.e g.got.now)) (kids_of g.list.now.adds.now g.e) in
    adding-refuses s (application g.name.now ks) (application_faults s g.name.now ks) _
    (applied-name s c.requires.sound g.name.now ks (sym c.is_valid.ensures ∙ c.if-not-is_valid.true))

pub returns-then-count_of-gt8-clause-added : goal.returns-then-count_of-gt8-clause-added
unfolding add_application
returns-then-count_of-gt8-clause-added c =
    let g = c.args in
    let s = held g.store.now in
    let ks : List ℕ = map (child_number (take g.e g.got.now)) (kids_of g.list.now.adds.now g.e) in
    adding-refuses s (application g.name.now ks) (application_faults s g.name.now ks) _
    (applied-size s c.requires.sound g.name.now ks (sym c.is_valid.ensures ∙ c.if-not-is_valid.false)
    (counted-many g.list.now.adds.now g.e _ c.count_of.ensures (child_number (take g.e g.got.now))
    c.if-count_of-gt8.true))

pub returns-clause-added : goal.returns-clause-added
returns-clause-added c =
    let g = c.args in
    let s = held g.store.now in
    let few = counted-few g.list.now.adds.now g.e _ c.count_of.ensures c.requires.has_record c.if-count_of-gt8.false in
    c.applied.ensures.added
    ∙ ap (add_application s g.name.now)
    (c.settle.ensures
    ∙ ap (map (child_number (take g.e g.got.now))) (c.children_of-kids.ensures ∙ sym few))
