-- The worked cases compute, from the table's bits on. Assumes nothing.
use mathlib.Core.Path.{refl}
use Rattle.program_rules.specs.Query.{query_at}
use Rattle.program_rules.specs.Lines.{number_text, best_line, variants_line, variant_line, refused_line}
use Rattle.program_rules.specs.Reply.{
  empty_store,
  empty_lending,
  best_reply,
  variant_reply,
  variant_replies,
  variants_text,
  variants_reply,
  best_answer,
  variants_answer,
  best_told,
  best_call,
  variants_told,
  variants_call,
  call_of,
  answer_to,
  in_room,
  written,
  reply,
}
use Rattle.name.specs.Entries.{name_at, entry, put_name, find_from, find_name}
use Rattle.name.specs.Name.{allowed, all_allowed, valid, same}
use Rattle.bits.specs.Bits.{bits_of, value, number}
use Rattle.bits.specs.Field.{holds, field}
use Rattle.bits.specs.Got.{then, must, pick, many}
use Rattle.file_rules.specs.Arrays.{pad_with, blocks}
use Rattle.file_rules.specs.Bytes.{packed, file_of}
use Rattle.file_rules.specs.Code.{code, code_sort, unsigned, code_literal, code_function, code_row, code_table, code_file}
use Rattle.file_rules.specs.File.{version_at, sorts_part, literals_part, functions_part, rows_part, end_at, table_at}
use Rattle.file_rules.specs.Functions.{
  bytes_at,
  name_at as name_at-format-Functions,
  taken,
  new_name_at,
  cost_at,
  flags_at,
  output_at,
  argument_at,
  arguments_at,
  function_at,
  functions_at,
}
use Rattle.file_rules.specs.Literals.{signed, literal_at, literals_at}
use Rattle.file_rules.specs.Rows.{range, cell_at, cells_at, row_at, rows_at}
use Rattle.file_rules.specs.Sorts.{classes_of, sort_at, sorts_at}
use Rattle.term_rules.specs.Adding.{first_from, find_term, symbol_for, with_name, with_record, append, room_for_name, room_for, add}
use Rattle.term_rules.specs.Lent.{record_in, term_room, symbol_room, by_kind}
use Rattle.term_rules.specs.Nodes.{node_of, node_at, same_node, record_of}
use Rattle.term_rules.specs.WellFormed.{
  every,
  all_zero,
  all_below,
  same_int,
  sound_name,
  sound_literal,
  sound_variable,
  sound_application,
  sound_record,
  same_term,
  new_name,
  new_term,
  well_formed,
}
use Rattle.table_rules.specs.Arrays.{held_by, arguments_in, brought_in, view_in}
use Rattle.table_rules.specs.Order.{
  has,
  picked,
  in_turn,
  functions_of,
  rows_of,
  join,
  brought,
  visits,
  sorts_reached,
  functions_in_order,
  rows_in_order,
}
use Rattle.choice_rules.specs.Answer.{answer_of}
use Rattle.choice_rules.specs.Deriving.{tree_cost, forest_cost}
use Rattle.choice_rules.specs.Edges.{child_rank, is_edge, first_row}
use Rattle.choice_rules.specs.Rows.{sum_of, all_of, tabulate}
use Rattle.choice_rules.specs.Run.{child_cost, priced, row_cost, improves, relax, pass, passes, run_from, run, given}
use Rattle.choice_rules.specs.Demand.Orders.{in_order}
use Rattle.order.specs.Compare.{numbers, lists}
use Rattle.order.specs.Sort.{count, insert, sorted}
use Rattle.variant_order.specs.Arrays.{key_in}
use Rattle.variant_order.specs.Keys.{compare_keys, compare_rows}
use Rattle.table_rules.specs.Rules.Choosing.{run_over, answer_for, edge_for, edge_row}
use Rattle.table_rules.specs.Rules.Classes.{flat_class, child_of, range_of, is_root}
use Rattle.table_rules.specs.Rules.Order.{view_of, scan_order, scanned}
use Rattle.table_rules.specs.Rules.Rows.{head_cost, children_of, row_by, table_rows, usable_function, usable}
use Rattle.build.specs.Building.{added, kept, child_in, children_in, own_in, build_in}
use Rattle.build.specs.Plan.{child_of as child_of-build-Plan}
use Rattle.build.specs.Whole.{left, whole}
use Rattle.answer_rules.specs.Best.{best_literal, best_built, best_class, best_of, best_at}
use Rattle.answer_rules.specs.Plan.{plan_child, plan_children, plan_for}
use Rattle.answer_rules.specs.Variants.{
  cost_for,
  is_variant,
  variant_rows,
  key_for,
  kept_rows,
  any_dear,
  own_variant,
  variant_in,
  variants_in,
  variants_kept,
  room_for_results,
  variant_literal,
  variants_built,
  variants_of_rows,
  variants_of,
  variants_at,
}
use Rattle.decimal.specs.Decimal.{digits_in, digits, literal_text}
use Rattle.text_rules.specs.Bindings.{find, to_bind, bind, meet_in, bindings}
use Rattle.text_rules.specs.Counts.{
  in_turn as in_turn-text-rules-Counts,
  member,
  reach_in,
  reached,
  places,
  places_in,
  count as count-text-rules-Counts,
  sum_of as sum_of-text-rules-Counts,
  size_in,
  size,
}
use Rattle.text_rules.specs.Forms.{each, form, shown, child_text, line_in, line}
use Rattle.text_rules.specs.LetText.{
  count_text,
  let_name,
  called_at,
  called,
  several,
  any_several,
  new_line,
  breaks,
  own_in
      as own_in-text-rules-LetText,
  own,
  body_gap,
  let_line,
  let_lines,
  text_with,
  bindings_of,
  let_layout,
  let_text,
  next_count,
}
use Rattle.text_rules.specs.PlainText.{plain_line, plain_text}
use Rattle.cases.specs.Words.{bytes}
use Rattle.cases.specs.Tables.{number_of, row_of, table, adding}
use Rattle.cases.specs.Cases.{
  Cases,
  input_of,
  num_add,
  wrap_leaf,
  only_wrap,
  one_num,
  two_leaves,
  one_literal,
  shared_three,
  shared_four,
}

pub cases : Cases
unfolding query_at empty_store empty_lending number_text best_line variants_line variant_line refused_line best_reply
    variant_reply variant_replies variants_reply best_answer variants_answer best_told best_call variants_told variants_call
    variants_text call_of answer_to in_room written reply name_at
    entry put_name find_from find_name allowed all_allowed valid same bits_of value number holds field then must pick many
    pad_with blocks version_at sorts_part literals_part functions_part rows_part end_at table_at bytes_at name_at-format-Functions
    taken new_name_at cost_at flags_at output_at argument_at arguments_at function_at functions_at signed literal_at literals_at
    range cell_at cells_at row_at rows_at classes_of sort_at sorts_at first_from find_term symbol_for with_name with_record append
    room_for_name room_for add record_in term_room symbol_room by_kind node_of node_at same_node record_of every all_zero all_below
    same_int sound_name sound_literal sound_variable sound_application sound_record same_term new_name new_term well_formed held_by
    arguments_in brought_in view_in has picked in_turn functions_of rows_of join brought visits sorts_reached functions_in_order
    rows_in_order answer_of tree_cost forest_cost child_rank is_edge first_row sum_of all_of tabulate child_cost priced row_cost
    improves relax pass passes run_from run given in_order numbers lists count insert sorted key_in compare_keys compare_rows
    run_over answer_for edge_for edge_row flat_class child_of range_of is_root view_of scan_order scanned head_cost children_of row_by
    table_rows usable_function usable added kept child_in children_in own_in build_in child_of-build-Plan
    left whole best_literal best_built best_class best_of best_at plan_child plan_children plan_for cost_for is_variant
    variant_rows key_for kept_rows any_dear own_variant variant_in variants_in variants_kept room_for_results variant_literal
    variants_built variants_of_rows variants_of variants_at digits_in digits literal_text find to_bind bind meet_in bindings
    in_turn-text-rules-Counts member reach_in reached places places_in count-text-rules-Counts sum_of-text-rules-Counts
    size_in size each form shown child_text line_in line count_text let_name called_at called several any_several new_line
    breaks own_in-text-rules-LetText own body_gap let_line let_lines text_with bindings_of let_layout let_text next_count
    plain_line plain_text packed file_of code code_sort unsigned code_literal code_function code_row code_table code_file bytes
    number_of row_of table adding input_of num_add wrap_leaf only_wrap one_num two_leaves one_literal shared_three shared_four
cases = record {
  given_file = refl;
  given_size = refl;
  given_whole = refl;
  given_table = record { query = refl; file = refl; output = refl };
  zero_cost_loop = record { query = refl; file = refl; output = refl };
  zero_cost_loop_variants = record { query = refl; file = refl; output = refl };
  only_a_loop = record { query = refl; file = refl; output = refl };
  only_a_loop_variants = record { query = refl; file = refl; output = refl };
  dearest = record { query = refl; file = refl; output = refl };
  too_dear = record { query = refl; file = refl; output = refl };
  two_leaves = record { query = refl; file = refl; output = refl };
  base_root = record { query = refl; file = refl; output = refl };
  eighty_wide = record { formed = refl; count = refl; output = refl };
  eighty = (refl, (refl, (refl, refl)));
  eighty_one_wide = record { formed = refl; count = refl; output = refl };
  eighty_one = refl;
  size_three = record { query = refl; file = refl; output = refl };
  size_four = record { query = refl; file = refl; output = refl };
  least_literal = record { query = refl; file = refl; output = refl };
}
