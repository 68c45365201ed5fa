-- The loop over the functions: those read so far stand in the arrays. Assumes nothing.
use Prim.Native.Nat.{ℕ, ◌+◌, ◌*◌, ◌≤◌, ◌<◌}
use mathlib.Core.List.{List, [], ◌∷◌, ◌++◌}
use mathlib.Core.Path.{◌≡◌, refl, sym, ap, ◌∙◌}
use native.Mathlib.Omega.{arith}
use lib.ListN.{length}
use lib.Seq.{sets, sets-eq, take_all}
use Rattle.refusal.specs.declared.Refusal.{Refusal}
use Rattle.name.specs.Entries.{entry_width, entries_length, table_length, Entries, entry, put_name}
use Rattle.name.proofs.EntryLaws.{entry_length}
use Rattle.bits.specs.Got.{got, refused}
use Rattle.bits.proofs.GotLaws.{all-at, Loop, loop-start, loop-more, loop-refuses, loop-ends}
use Rattle.file_rules.specs.declared.Functions.{Functions}
use Rattle.file_rules.specs.Table.{Function}
use Rattle.file_rules.specs.Every.{Every, every-nil}
use Rattle.file_rules.specs.Functions.{function_at, functions_at}
use Rattle.file_rules.specs.Arrays.{pad, blocks, HoldsFunctions}
use Rattle.file_rules.specs.Held.{empty}
use Rattle.file_rules.proofs.ArraysLaws.{pad_with-nil, pad_with-length, pad-set-map}
use Rattle.file_rules.proofs.BlockLaws.{every-snoc, every_map, blocks-snoc, blocks-length, pad-block, pad-of-pad}
use Rattle.file_rules.proofs.FunctionLaws.{function-kept}
use Rattle.file_names.specs.Name.{HoldsNames}
use Rattle.file_names.proofs.EntriesLaws.{entry_of, names-length, held-entries}
use Rattle.file_reader.specs.Put.{PutFunction, Zeros}

-- The name of one function more.
names_more : (fs : List Function) (f : Function) (i : ℕ) → HoldsNames (pad table_length (blocks entry_of fs)) i fs → i < 128
    → length f.name ≤ 31
    → put_name (pad table_length (blocks entry_of fs)) i f.name ≡ pad table_length (blocks entry_of (fs ++ (f ∷ [])))
unfolding put_name
names_more fs f i h b l =
    let e : length (entry f.name) ≡ entry_width = entry_length f.name l in
    let few : i ≤ 128 = omega arith in
    let t = take_all entry_width (entry f.name) (omega arith) in
    rw (t, blocks-snoc) (pad-block table_length (blocks entry_of fs) (entry f.name) (entries_length i) (entries_length i + entry_width) (names-length h
    few) (omega arith) (omega arith))

-- The 8 places of a function's argument sorts.
abbrev pub places_of : Function → List ℕ
places_of f = pad 8 f.arguments

places-length : {fs : List Function} → Every (λ (f : Function). length f.arguments ≤ 8) fs
    → length (blocks places_of fs) ≡ length fs * 8
places-length h =
    blocks-length places_of 8
    (every_map (λ (f : Function) (l : length f.arguments ≤ 8). pad_with-length 0 8 f.arguments l) h)

arguments-more : (fs : List Function) (f : Function) (i : ℕ) → Every (λ (f : Function). length f.arguments ≤ 8) fs
    → length fs ≡ i → i < 128 → length f.arguments ≤ 8
    → sets (pad 1024 (blocks places_of fs)) (i * 8) f.arguments ≡ pad 1024 (blocks places_of (fs ++ (f ∷ [])))
arguments-more fs f i h c b l =
    let xs : List ℕ = f.arguments in
    let n : length (blocks places_of fs) ≡ i * 8 = rw (← c) (places-length h) in
    let m : length (pad 1024 (blocks places_of fs)) ≡ 1024 = pad_with-length 0 1024 (blocks places_of fs) (omega arith) in
    sets-eq xs (pad 1024 (blocks places_of fs)) (i * 8) (omega arith)
    ∙ pad-block 1024 (blocks places_of fs) xs (i * 8) (i * 8 + length xs) n refl (omega arith)
    ∙ sym (pad-of-pad 1024 8 (blocks places_of fs) xs l (omega arith))
    ∙ ap (pad 1024) (sym (blocks-snoc places_of fs f))

-- Functions of which none is read.
pub zeros-of : {f : Functions} → f ≡ empty.functions
    → Zeros f.names f.declared f.costs f.unextractable f.hidden f.outputs f.arities f.arguments
zeros-of e =
    rw e
    (record {
      names_zero = refl;
      declared_zero = refl;
      costs_zero = refl;
      unextractable_zero = refl;
      hidden_zero = refl;
      outputs_zero = refl;
      arities_zero = refl;
      arguments_zero = refl;
    })

-- The loop over count functions from at.
pub record Functions-read (s kinds : List ℕ) (at count : ℕ)
    (names declared costs unextractable hidden outputs arities arguments : List ℕ) (p i : ℕ) : Type 0 where
  pub fs : List Function
  pub loop : Loop (λ fs p. function_at s kinds fs p) count at p i fs
  pub near : p ≤ at + 369 * i
  pub short : Every (λ (f : Function). length f.name ≤ 31) fs
  pub tight : Every (λ (f : Function). length f.arguments ≤ 8) fs
  pub held : HoldsFunctions names declared costs unextractable hidden outputs arities arguments fs

module _ {s kinds : List ℕ} {at count : ℕ}
    {names declared costs unextractable hidden outputs arities arguments : List ℕ} where
  pub functions-start : Zeros names declared costs unextractable hidden outputs arities arguments
      → Functions-read s kinds at count names declared costs unextractable hidden outputs arities arguments at 0
  unfolding blocks
  functions-start z =
      record {
        fs = [];
        loop = loop-start;
        near = omega arith;
        short = every-nil;
        tight = every-nil;
        held =
            record {
              names_are = z.names_zero ∙ sym (pad_with-nil 0 table_length);
              declared_are = z.declared_zero ∙ sym (pad_with-nil 0 128);
              costs_are = z.costs_zero ∙ sym (pad_with-nil 0 128);
              unextractable_are = z.unextractable_zero ∙ sym (pad_with-nil 0 128);
              hidden_are = z.hidden_zero ∙ sym (pad_with-nil 0 128);
              outputs_are = z.outputs_zero ∙ sym (pad_with-nil 0 128);
              arities_are = z.arities_zero ∙ sym (pad_with-nil 0 128);
              arguments_are = z.arguments_zero ∙ sym (pad_with-nil 0 1024);
            };
      }

  module _ {p i : ℕ} (l : Functions-read s kinds at count names declared costs unextractable hidden outputs
      arities arguments p i) where
    pub functions-names : HoldsNames names i l.fs
    functions-names = record { count = l.loop.some; short = l.short; are = l.held.names_are }

    pub functions-entries : i < 128 → Entries names i
    functions-entries b = held-entries functions-names (omega arith)

    pub functions_more : {names' declared' costs' unextractable' hidden' outputs' arities' arguments' : List ℕ}
        {f : Function} {q : ℕ}
        → count < 128 → i < count → function_at s kinds l.fs p ≡ got f q
        → PutFunction i names declared costs unextractable hidden outputs arities arguments
        names' declared' costs' unextractable' hidden' outputs' arities' arguments' f
        → Functions-read s kinds at count names' declared' costs' unextractable' hidden' outputs'
        arities' arguments' q (i + 1)
    functions_more {f = f} {q = q} c h e u =
        let k = all-at (rw e at (function-kept s kinds l.fs p)) in
        let o = l.loop.some in
        let b : i < 128 = omega arith in
        let n = rw l.held.names_are at functions-names in
        record {
          fs = l.fs ++ (f ∷ []);
          loop = loop-more l.loop h e;
          near = omega (arith, k.near, l.near);
          short = every-snoc l.short k.short;
          tight = every-snoc l.tight k.ok.few;
          held =
              record {
                names_are = u.names_put ∙ rw l.held.names_are (names_more l.fs f i n b k.short);
                declared_are =
                    u.declared_put
                    ∙ rw l.held.declared_are (pad-set-map 128 (λ (f : Function). f.has_cost) l.fs i f o b refl);
                costs_are =
                    u.costs_put
                    ∙ rw l.held.costs_are (pad-set-map 128 (λ (f : Function). f.cost) l.fs i f o b refl);
                unextractable_are =
                    u.unextractable_put
                    ∙ rw l.held.unextractable_are
                    (pad-set-map 128 (λ (f : Function). f.unextractable) l.fs i f o b refl);
                hidden_are =
                    u.hidden_put
                    ∙ rw l.held.hidden_are (pad-set-map 128 (λ (f : Function). f.hidden) l.fs i f o b refl);
                outputs_are =
                    u.outputs_put
                    ∙ rw l.held.outputs_are (pad-set-map 128 (λ (f : Function). f.output) l.fs i f o b refl);
                arities_are =
                    u.arities_put
                    ∙ rw l.held.arities_are
                    (pad-set-map 128 (λ (f : Function). length f.arguments) l.fs i f o b refl);
                arguments_are =
                    u.arguments_put
                    ∙ rw l.held.arguments_are (arguments-more l.fs f i l.tight o b k.ok.few);
              };
        }

    pub functions-refuse : {r : Refusal} → i < count → function_at s kinds l.fs p ≡ refused r
        → functions_at s kinds count at ≡ refused r
    unfolding functions_at
    functions-refuse h e = loop-refuses l.loop h e

    pub functions-end : count ≤ i → functions_at s kinds count at ≡ got l.fs p
    unfolding functions_at
    functions-end h = loop-ends l.loop h
