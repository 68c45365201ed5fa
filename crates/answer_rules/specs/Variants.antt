-- The variants of a root: document 01, 'Costs and choice', last paragraph. Assumes nothing: definitions.
use Rattle.std.specs.Prelude.{Bool, true, false, ◌&&◌, ◌||◌, List, [], ◌∷◌, ◌++◌, map, ℕ, suc, eqb, leb, length, get_or, take, replicate}
use Rattle.std.proofs.Math.Seq.{paste}
use Rattle.refusal.specs.declared.Refusal.{Refusal}
use Rattle.refusal.specs.declared.Refusal.TheVariants.{BadRoot, TooDear, NoRoom, BadStore}
use Rattle.refusal.specs.Numbers.{refusal_no}
use Rattle.bits.specs.Got.{got, refused as fault}
use Rattle.order.specs.Sort.{sorted}
use Rattle.term_rules.specs.Lent.{Store}
use Rattle.term_rules.specs.WellFormed.{well_formed}
use Rattle.term_rules.specs.Nodes.{literal, application}
use Rattle.term_rules.specs.Adding.{Adds, at, no_room, add}
use Rattle.choice_rules.specs.Rows.{Row, row_at, sum_of}
use Rattle.choice_rules.specs.Run.{row_priced, row_cost}
use Rattle.choice_rules.specs.Demand.Orders.{in_order}
use Rattle.table_rules.specs.Order.{picked}
use Rattle.build.specs.Building.{State, state, Out, done, full, added, children_in, build_in}
use Rattle.variant_order.specs.Keys.{Key, no_later}
use Rattle.file_rules.specs.Table.{Table}
use Rattle.file_rules.specs.File.{table_at}
use Rattle.table_rules.specs.Rules.Classes.{sort_of, flat_class, is_root}
use Rattle.table_rules.specs.Rules.Rows.{table_row_of, table_rows}
use Rattle.table_rules.specs.Rules.Terms.{literal_of, name_of}
use Rattle.table_rules.specs.Rules.Choosing.{limit, Prices, run_of, prices_for}
use Rattle.answer_rules.specs.Answers.{Answer, value, refusal}
use Rattle.answer_rules.specs.Plan.{plan_children, plan_for}

-- The rows that count, in scan order, and row i of them as a row of the file.
abbrev pub rows_for : Table → Prices → List Row
rows_for t p = in_order (table_rows t) p.order

abbrev pub file_row : Prices → ℕ → ℕ
file_row p i = get_or p.order i 0

-- The cost of row i of the scan order.
unfoldable pub cost_for : Table → Prices → ℕ → ℕ
cost_for t p i = row_cost limit p.costs (row_at (rows_for t p) i)

-- "every usable row of it with a cost": row i is one of class c.
unfoldable pub is_variant : Table → Prices → ℕ → ℕ → Bool
is_variant t p c i = eqb (row_at (rows_for t p) i).output c && row_priced p.orders (row_at (rows_for t p) i)

unfoldable pub variant_rows : Table → Prices → ℕ → List ℕ
variant_rows t p c = picked (is_variant t p c) 0 (length (rows_for t p))

-- What variants are sorted by.
unfoldable pub key_for : Table → Prices → ℕ → Key
key_for t p i = record {
  cost = cost_for t p i;
  name = name_of t (file_row p i);
  cells = (table_row_of t (file_row p i)).cells;
}

-- "sorted by cost, function name bytes, row cells ..., then the first n"
unfoldable pub kept_rows : Table → Prices → ℕ → ℕ → List ℕ
kept_rows t p c n = take n (sorted (no_later (key_for t p)) (variant_rows t p c))

-- "TooDear: .. variants: a kept one costs 2^64-1 after saturation"
unfoldable pub any_dear : Table → Prices → List ℕ → Bool
any_dear t p [] = false
any_dear t p (i ∷ rows) = leb limit (cost_for t p i) || any_dear t p rows

-- A row's own term over its children's.
unfoldable pub own_variant : List ℕ → Out (List ℕ) → Out ℕ
own_variant name (done ks s) = added s (add s.lent (application name ks))
own_variant name (full me rs ls ns) = full me rs ls ns

-- The term of a row: its children first, each class by its best term, then the term itself. f bounds the depth.
unfoldable pub variant_in : Table → Prices → ℕ → State → ℕ → Out ℕ
variant_in t p f s i =
    own_variant (name_of t (file_row p i))
    (children_in (build_in (plan_for t p) f) s [] (plan_children t (file_row p i)))

-- The terms of rows in turn, after those that have the numbers ts.
unfoldable pub variants_in : Table → Prices → ℕ → State → List ℕ → List ℕ → Out (List ℕ)
variants_in t p f s ts [] = done ts s
variants_in t p f s ts (i ∷ rows) =
    elim (variant_in t p f s i) [
      | done u s' ↦ variants_in t p f s' (ts ++ (u ∷ [])) rows
      | full me rs ls ns ↦ full me rs ls ns
    ]

-- What the call answers: how many are kept, and the passes.
pub record Kept : Type 0 where
  pub count : ℕ
  pub passes : ℕ

-- What it gives back: the answer, the store, and the two lent lists of results, costs and terms.
pub record VariantsAfter : Type 0 where
  pub answer : Answer Kept
  pub store : Store
  pub costs : List ℕ
  pub terms : List ℕ

-- What is lent: the store and the two lists.
pub record Lending : Type 0 where
  pub store : Store
  pub costs : List ℕ
  pub terms : List ℕ

-- "Each returns its number alone. Nothing lent is changed."
abbrev pub variants_refused : Refusal → Lending → VariantsAfter
variants_refused r l = record { answer = refusal (refusal_no r); store = l.store; costs = l.costs; terms = l.terms }

-- The results stand at the front of the two lists; what is past them stays.
unfoldable pub variants_kept : Lending → List ℕ → List ℕ → ℕ → Store → VariantsAfter
variants_kept l ws ts p s = record {
  answer = value (record { count = length ws; passes = p });
  store = s;
  costs = paste l.costs 0 ws (length ws);
  terms = paste l.terms 0 ts (length ts);
}

-- Whether n results have their places.
unfoldable pub room_for_results : Lending → ℕ → Bool
room_for_results l n = leb n (length l.costs) && leb n (length l.terms)

-- "A base root gives one variant, even for n = 0."
unfoldable pub variant_literal : Lending → Adds → VariantsAfter
variant_literal l (at i s) =
    elim (room_for_results l 1) [
      | true ↦ variants_kept l (1 ∷ []) (i ∷ []) 1 s
      | false ↦ variants_refused NoRoom l
    ]
variant_literal l no_room = variants_refused NoRoom l

unfoldable pub variants_built : Table → Prices → ℕ → Lending → List ℕ → Out (List ℕ) → VariantsAfter
variants_built t p n l rows (done ts s) = variants_kept l (map (cost_for t p) rows) ts n s.lent
variants_built t p n l rows (full me rs ls ns) = variants_refused NoRoom l

-- A depth that is enough for every class: above each order number.
abbrev pub depth_for : Prices → ℕ
depth_for p = suc (sum_of (λ (x : ℕ). x) p.orders)

-- "12, 13" of the rows that are kept; n is the number of passes.
unfoldable pub variants_of_rows : Table → Prices → ℕ → Lending → List ℕ → VariantsAfter
variants_of_rows t p n l rows =
    elim (any_dear t p rows) [
      | true ↦ variants_refused TooDear l
      | false ↦ elim (room_for_results l (length rows)) [
        | false ↦ variants_refused NoRoom l
        | true ↦
            variants_built t p n l rows
            (variants_in t p (depth_for p) (state (replicate 512 0) l.store) [] rows)
      ]
    ]

-- Of an accepted table, a root and a well-formed store, at the run's prices.
unfoldable pub variants_of : Table → ℕ → ℕ → ℕ → Lending → VariantsAfter
variants_of t root v n l =
    elim (eqb (sort_of t root).kind 0) [
      | true ↦ variant_literal l (add l.store (literal (literal_of t v)))
      | false ↦
          variants_of_rows t (prices_for t root) (run_of t root).passes l
          (kept_rows t (prices_for t root) (flat_class t root v) n)
    ]

-- "Best and variants: file, 10, 17, 11, 12, 13."
unfoldable pub variants_at : List ℕ → ℕ → ℕ → ℕ → Lending → VariantsAfter
variants_at file root v n l =
    elim (table_at file) [
      | fault r ↦ variants_refused r l
      | got t p ↦ elim (is_root t root v) [
        | false ↦ variants_refused BadRoot l
        | true ↦ elim (well_formed l.store) [ false ↦ variants_refused BadStore l | true ↦ variants_of t root v n l ]
      ]
    ]
