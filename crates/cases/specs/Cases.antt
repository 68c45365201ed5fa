-- The cases that document 01 marks (P) and its file given whole, "proved as a single table under a single statement":
-- each by its table or its store, and by what is written. The value is `cases` in proofs/Cases.antt. Assumes nothing:
-- statements.
use Rattle.std.specs.Prelude.{ℕ, ◌*◌, ◌-◌, ◌^◌, ◌≡◌, true, List, [], ◌∷◌, ◌++◌, ℤ, pos, negsuc, length}
use Prim.Native.String.{String}
use Rattle.bits.specs.Got.{got}
use Rattle.file_rules.specs.Table.{Table}
use Rattle.file_rules.specs.File.{table_at}
use Rattle.file_rules.specs.Code.{code}
use Rattle.file_rules.specs.Bytes.{packed, file_of}
use Rattle.term_rules.specs.Nodes.{Node, variable, application}
use Rattle.term_rules.specs.WellFormed.{well_formed}
use Rattle.text_rules.specs.LetText.{let_text}
use Rattle.program_rules.specs.Query.{Query, asked, query_at}
use Rattle.program_rules.specs.Reply.{empty_store, let_naming, reply}
use Rattle.cases.specs.Words.{bytes}
use Rattle.cases.specs.Tables.{eq, base, plain, costing, line, table, adding}

-- What is asked of sort 0: its best term with let text or plain, or its first variants.
abbrev pub best_let : ℕ → Query
best_let value = asked 0 0 value 0

abbrev pub best_plain : ℕ → Query
best_plain value = asked 2 0 value 0

abbrev pub variants : ℕ → ℕ → Query
variants most value = asked 1 0 value most

-- "mode 2 bits .., sort 5, value 9, n 8; then the table file."
unfoldable pub input_of : Query → Table → List ℕ
input_of q t =
    packed 3 (code 2 q.mode ++ (code 5 q.sort ++ (code 9 q.value ++ code 8 q.most))) ++ file_of t

-- The program, asked so of the file that holds the table, writes the text.
pub record Writes (q : Query) (t : Table) (text : String) : Type 0 where
  pub query : query_at (input_of q t) ≡ got q 24
  pub file : table_at (file_of t) ≡ got t (8 * length (file_of t))
  pub output : reply (input_of q t) ≡ bytes text

-- The terms have the numbers from 0 on in a well-formed store, and the last has this let text, with the program's names.
pub record Shows (nodes : List Node) (text : List ℕ) : Type 0 where
  pub formed : well_formed (adding empty_store nodes) ≡ true
  pub count : (adding empty_store nodes).terms ≡ length nodes
  pub output : let_text (adding empty_store nodes) let_naming (length nodes - 1) ≡ text

-- "eq sort 0 with 3 classes, base sort 1, literal 5, `Num` (1 -> 0, no cost), `Add` (0 0 -> 0, cost 2), rows Num(0)->0,
-- Add(0,0)->1, Add(1,1)->2"
unfoldable pub num_add : Table
num_add =
    table (eq 3 ∷ base ∷ []) (pos 5 ∷ []) (plain "Num" (1 ∷ []) ∷ costing 2 "Add" (0 ∷ 0 ∷ []) ∷ [])
    (line "Num" (0 ∷ []) 0 ∷ line "Add" (0 ∷ 0 ∷ []) 1 ∷ line "Add" (1 ∷ 1 ∷ []) 2 ∷ [])

abbrev pub given : List ℕ
given =
    17 ∷ 64 ∷ 48 ∷ 4 ∷ 0 ∷ 0 ∷ 0 ∷ 0 ∷ 0 ∷ 0 ∷ 0 ∷ 20 ∷ 16 ∷ 211 ∷ 157 ∷ 91 ∷ 64 ∷ 4 ∷ 35 ∷ 65 ∷ 100 ∷ 100 ∷ 128 ∷ 0 ∷
    0 ∷ 0 ∷ 0 ∷ 0 ∷ 0 ∷ 1 ∷ 0 ∷ 32 ∷ 0 ∷ 1 ∷ 128 ∷ 0 ∷ 0 ∷ 0 ∷ 64 ∷ 0 ∷ 0 ∷ 4 ∷ 8 ∷ 2 ∷ 1 ∷ 1 ∷ 0 ∷ []

-- "Wrap(0)->0 cost 0, then Leaf()->0"
unfoldable pub wrap_leaf : Table
wrap_leaf =
    table (eq 1 ∷ []) [] (costing 0 "Wrap" (0 ∷ []) ∷ plain "Leaf" [] ∷ [])
    (line "Wrap" (0 ∷ []) 0 ∷ line "Leaf" [] 0 ∷ [])

-- "Only Wrap(0)->0"
unfoldable pub only_wrap : Table
only_wrap = table (eq 1 ∷ []) [] (costing 0 "Wrap" (0 ∷ []) ∷ []) (line "Wrap" (0 ∷ []) 0 ∷ [])

-- "One Num(literal) row", of a head cost
unfoldable pub one_num : ℕ → Table
one_num cost =
    table (eq 1 ∷ base ∷ []) (pos 7 ∷ []) (costing cost "Num" (1 ∷ []) ∷ []) (line "Num" (0 ∷ []) 0 ∷ [])

-- "Two cost-1 leaves": functions B, A and rows A, B, so that scan order, row order and the order of names all differ.
unfoldable pub two_leaves : Table
two_leaves = table (eq 1 ∷ []) [] (plain "B" [] ∷ plain "A" [] ∷ []) (line "A" [] 0 ∷ line "B" [] 0 ∷ [])

-- A base sort 0 of one literal.
unfoldable pub one_literal : ℤ → Table
one_literal z = table (base ∷ []) (z ∷ []) [] []

-- Add of a shared term: Up of Num 5, of size 3, and Up of that, of size 4.
unfoldable pub shared_three : Table
shared_three =
    table (eq 3 ∷ base ∷ []) (pos 5 ∷ [])
    (plain "Num" (1 ∷ []) ∷ plain "Up" (0 ∷ []) ∷ plain "Add" (0 ∷ 0 ∷ []) ∷ [])
    (line "Num" (0 ∷ []) 0 ∷ line "Up" (0 ∷ []) 1 ∷ line "Add" (1 ∷ 1 ∷ []) 2 ∷ [])

unfoldable pub shared_four : Table
shared_four =
    table (eq 4 ∷ base ∷ []) (pos 5 ∷ [])
    (plain "Num" (1 ∷ []) ∷ plain "Up" (0 ∷ []) ∷ plain "Add" (0 ∷ 0 ∷ []) ∷ [])
    (line "Num" (0 ∷ []) 0 ∷ line "Up" (0 ∷ []) 1 ∷ line "Up" (1 ∷ []) 2 ∷ line "Add" (2 ∷ 2 ∷ []) 3 ∷ [])

-- Names of 31, 31, 12 and 13 bytes, and F of three variables, the last of the name that is given.
abbrev pub a31 : List ℕ
a31 = bytes "aaaaaaaaaaaaaaaaaaaaaaaaaaaaaaa"

abbrev pub b31 : List ℕ
b31 = bytes "bbbbbbbbbbbbbbbbbbbbbbbbbbbbbbb"

abbrev pub c12 : List ℕ
c12 = bytes "cccccccccccc"

abbrev pub c13 : List ℕ
c13 = bytes "ccccccccccccc"

abbrev pub three_variables : List ℕ → List Node
three_variables c = variable a31 ∷ variable b31 ∷ variable c ∷ application (bytes "F") (0 ∷ 1 ∷ 2 ∷ []) ∷ []

abbrev pub line_of80 : List ℕ
line_of80 = bytes "(F aaaaaaaaaaaaaaaaaaaaaaaaaaaaaaa bbbbbbbbbbbbbbbbbbbbbbbbbbbbbbb cccccccccccc)"

pub record Cases : Type 0 where
  -- "47 bytes beginning 11 40 30 04. Query 00 02 00 prints .."
  pub given_file : file_of num_add ≡ given
  pub given_size : length given ≡ 47
  pub given_whole :
      reply (0 ∷ 2 ∷ 0 ∷ given) ≡ bytes "best 14 4 2\n(let t0 (Add (Num 5) (Num 5)))\n\n(Add t0 t0)\n"
  pub given_table : Writes (best_let 2) num_add "best 14 4 2\n(let t0 (Add (Num 5) (Num 5)))\n\n(Add t0 t0)\n"
  -- "Wrap(0)->0 cost 0, then Leaf()->0: best is (Leaf), cost 1,
  pub zero_cost_loop : Writes (best_plain 0) wrap_leaf "best 1 1 2\n(Leaf)\n"
  -- and variants are (Leaf) 1, (Wrap (Leaf)) 1."
  pub zero_cost_loop_variants :
      Writes (variants 9 0) wrap_leaf "variants 2 2\nvariant 1 1 2\n(Leaf)\nvariant 2 1 2\n(Wrap (Leaf))\n"
  -- "Only Wrap(0)->0: NoTerm;
  pub only_a_loop : Writes (best_let 0) only_wrap "refused 11\n"
  -- its variants: empty."
  pub only_a_loop_variants : Writes (variants 9 0) only_wrap "variants 0 1\n"
  -- "One Num(literal) row, head cost 2^64-3: cost 2^64-2."
  pub dearest : Writes (best_plain 0) (one_num (2 ^ 64 - 3)) "best 18446744073709551614 2 2\n(Num 7)\n"
  -- "Head cost 2^64-2: TooDear."
  pub too_dear : Writes (best_plain 0) (one_num (2 ^ 64 - 2)) "refused 12\n"
  -- "Two cost-1 leaves: the first in scan order."
  pub two_leaves : Writes (best_plain 0) two_leaves "best 1 1 2\n(B)\n"
  -- "A base root with n = 0: one variant, cost 1."
  pub base_root : Writes (variants 0 0) (one_literal (pos 7)) "variants 1 1\nvariant 1 1 1\n7\n"
  -- "F of three variables of 31, 31 and 12 bytes: 80 characters, one line."
  pub eighty_wide : Shows (three_variables c12) (bytes "\n" ++ line_of80)
  pub eighty : (length a31 ≡ 31) × ((length b31 ≡ 31) × ((length c12 ≡ 12) × (length line_of80 ≡ 80)))
  -- "31, 31, 13: broken."
  pub eighty_one_wide :
      Shows (three_variables c13)
      (bytes "\n(F\n  aaaaaaaaaaaaaaaaaaaaaaaaaaaaaaa\n  bbbbbbbbbbbbbbbbbbbbbbbbbbbbbbb\n  ccccccccccccc)")
  pub eighty_one : length c13 ≡ 13
  -- "A shared term of size 3: no binding."
  pub size_three : Writes (best_let 2) shared_three "best 7 4 2\n\n(Add (Up (Num 5)) (Up (Num 5)))\n"
  -- "Size 4: bound."
  pub size_four : Writes (best_let 3) shared_four "best 9 5 2\n(let t0 (Up (Up (Num 5))))\n\n(Add t0 t0)\n"
  -- "Literal -9223372036854775808 prints all its digits."
  pub least_literal :
      Writes (best_plain 0) (one_literal (negsuc 9223372036854775807)) "best 1 1 1\n-9223372036854775808\n"
