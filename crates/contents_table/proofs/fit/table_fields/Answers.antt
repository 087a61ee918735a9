use Rattle.std.proofs.Common.{sym, ◌∙◌}
use Rattle.file_grammar.specs.Closing.{is_size}
use Rattle.contents_table.proofs.NamedLists.{sizes}
use Rattle.contents_table.proofs.TableFields.{AreFirst, table-no_sim, table-no_ser, table-found}
use Rattle.contents_table.proofs.fit.table_fields.Goals as goal
use Rattle.contents_table.proofs.fit.table_fields.Goals.{In_ok-kind_fields-2}

-- what is found before the simulated data
first : (c : In_ok-kind_fields-2)
    → AreFirst c.args.elements.now c.in_ok-count_named.field-0 c.in_ok-list_named.field-0
    c.in_ok-kind_fields.field-0 c.in_ok-kind_fields-2.field-0
first c = record {
  frames_found = c.in_ok-count_named.ensures;
  heads_found = c.in_ok-list_named.ensures is_size sizes;
  adc_found = c.in_ok-kind_fields.ensures;
  proc_found = c.in_ok-kind_fields-2.ensures;
}

pub returns-in_err-kind_fields-3 : goal.returns-in_err-kind_fields-3
returns-in_err-kind_fields-3 c =
    let before = first (goal.at.returns-in_err-kind_fields-3 c).In_ok-kind_fields-2 in
    c.from_residual-in_err-kind_fields-3.ensures
    ∙ sym (table-no_sim c.args.elements.now _ _ _ _ before c.in_err-kind_fields-3.ensures)

pub returns-in_err-serial_fields : goal.returns-in_err-serial_fields
returns-in_err-serial_fields c =
    let before = first (goal.at.returns-in_err-serial_fields c).In_ok-kind_fields-2 in
    c.from_residual-in_err-serial_fields.ensures
    ∙ sym (table-no_ser c.args.elements.now _ _ _ _ before c.in_ok-kind_fields-3.field-0
    c.in_ok-kind_fields-3.ensures c.in_err-serial_fields.ensures)

pub returns : goal.returns
returns c =
    let before = first (goal.at.returns c).In_ok-kind_fields-2 in
    table-found c.args.elements.now _ _ _ _ before c.in_ok-kind_fields-3.field-0 c.in_ok-kind_fields-3.ensures
    c.in_ok-serial_fields.field-0 c.in_ok-serial_fields.ensures
