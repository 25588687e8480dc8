-- `unfolding computing` opens every definition of the language, so that a fact about closed terms holds by `refl`.
-- Assumes nothing.
use Rattle.language.specs.Bytes.{class_of}
use Rattle.language.specs.Words.{words, word_of}
use Rattle.language.specs.Names.{slash_last, spellable, plain_name, escaped, spelling}
use Rattle.language.specs.Instructions.{width, signed, form_of, load_type}
use Rattle.language.specs.Arithmetic.{meaning, wrap, overflows, div, rem, within, binary_of, unary_of}
use Rattle.language.specs.Programs.{rows_of, first_row, entry_count}
use Rattle.language.specs.Checking.{goes_to, predecessors, spots_in, spots_of, row_number, assigned_in, shaped, in_range, typed, breaks9, breaks10, breaks11, breaks12, breaks13, breaks14, breaks15, breaks16, row_tests, breaks_row, reached_in, late, breaks17, rows_that, faults10, faults, spellable_or_none, sizes_right, numbers_right, entry_right, names_right, sound, judge, judge_from, check}
use Rattle.language.specs.Running.{phis_of, came_by, phi_step, assign, perform, step, start, start_registers, after, run_of, row_here, phi_steps, edge_steps, first_unfit, arguments_fit}
use Rattle.language.specs.Translating.{kept_of, phi_blocks, phis_before, pairs_before, new_register, edge_of, retargeted, retarget, edge_rows, edges_to, kept_block, register_for, translation, phi_total, pair_count, size_of_edges, translated_registers, translated_blocks, translated_rows, translation_fits, step_formula}

unfoldable pub computing : Unit {0}
unfolding class_of words word_of slash_last spellable plain_name escaped spelling width signed form_of load_type meaning wrap overflows div rem within binary_of unary_of rows_of first_row entry_count goes_to predecessors spots_in spots_of row_number assigned_in shaped in_range typed breaks9 breaks10 breaks11 breaks12 breaks13 breaks14 breaks15 breaks16 row_tests breaks_row reached_in late breaks17 rows_that faults10 faults spellable_or_none sizes_right numbers_right entry_right names_right sound judge judge_from check phis_of came_by phi_step assign perform step start start_registers after run_of row_here phi_steps edge_steps first_unfit arguments_fit kept_of phi_blocks phis_before pairs_before new_register edge_of retargeted retarget edge_rows edges_to kept_block register_for translation phi_total pair_count size_of_edges translated_registers translated_blocks translated_rows translation_fits step_formula
computing = tt
