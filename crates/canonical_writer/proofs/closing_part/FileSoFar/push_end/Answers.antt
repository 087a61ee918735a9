use Rattle.std.proofs.Common.{◌≡◌, ◌+◌, ◌-◌, ◌^◌, ◌<◌, ◌≤◌, length, Some, codes, sym, ap, ◌∙◌, refl, arith}
use Rattle.std.proofs.lemmas.Option.{none-some}
use Rattle.layout_plan.specs.Layout.{layout_of}
use Rattle.file_grammar.specs.Closing.{field_named}
use Rattle.canonical_file.specs.Written.{way_back}
use Rattle.canonical_writer.specs.Closed.{written_of}
use Rattle.canonical_writer.specs.declared.end_values.EndOfFile.{EndOfFile}
use Rattle.canonical_writer.proofs.EndLayout.{end-layout, end-fits}
use Rattle.canonical_writer.proofs.ClosingBytes.{end-written, whole-size, longer}
use Rattle.canonical_writer.proofs.closing_part.FileSoFar.push_end.Goals as goal

pub unreachable-requires : goal.unreachable-requires
unreachable-requires c =
    let end = end-layout c.args.entry.now.elements c.requires.closes in
    none-some end.fields (sym c.in_default.is ∙ c.in_ok-plan.ensures ∙ end.layout)

pub push_end_record-requires : goal.push_end_record-requires
push_end_record-requires c =
    let end : EndOfFile = record {
      frames = c.args.self.now.frames;
      bytes = (c.args.self.now.size + c.len-2.result) + (14 + c.end_size.result);
      seek = c.way_back.result;
    } in
    let small : end.bytes < 2 ^ 64 =
    omega (
      arith,
      c.push_last.new.into.small,
      c.push_last.new.into.ok.1,
      c.len-2.ensures,
      c.requires.size,
      c.end_size.ensures.small,
    ) in
    let few : end.frames ≤ 1000000 = c.requires.frames in
    end-fits c.args.entry.now.elements c.fields-fields.result.now c.end_fields-told.result end c.requires.closes
    (sym c.in_ok-plan.ensures ∙ c.in-Some.is ∙ ap Some (sym c.fields-fields.ensures.fields))
    (c.end_fields-told.ensures.frames ∙ ap (λ es. field_named es (codes "nFrames")) c.as_slice.ensures)
    (c.end_fields-told.ensures.bytes ∙ ap (λ es. field_named es (codes "nBytes")) c.as_slice.ensures)
    (c.end_fields-told.ensures.seek ∙ ap (λ es. field_named es (codes "seekTOC")) c.as_slice.ensures) few small
    c.way_back.type_inv

pub returns : goal.returns
returns c =
    let end : EndOfFile = record {
      frames = c.args.self.now.frames;
      bytes = (c.args.self.now.size + c.len-2.result) + (14 + c.end_size.result);
      seek = c.way_back.result;
    } in
    let small : end.bytes < 2 ^ 64 =
    omega (
      arith,
      c.push_last.new.into.small,
      c.push_last.new.into.ok.1,
      c.len-2.ensures,
      c.requires.size,
      c.end_size.ensures.small,
    ) in
    let few : end.frames ≤ 1000000 = c.requires.frames in
    let layout : layout_of c.args.entry.now.elements ≡ Some c.fields-fields.result.now = sym c.in_ok-plan.ensures
    ∙ c.in-Some.is ∙ ap Some (sym c.fields-fields.ensures.fields) in
    let frames = c.end_fields-told.ensures.frames ∙ ap (λ es. field_named es (codes "nFrames")) c.as_slice.ensures in
    let bytes = c.end_fields-told.ensures.bytes ∙ ap (λ es. field_named es (codes "nBytes")) c.as_slice.ensures in
    let seek = c.end_fields-told.ensures.seek ∙ ap (λ es. field_named es (codes "seekTOC")) c.as_slice.ensures in
    let fits =
    end-fits c.args.entry.now.elements c.fields-fields.result.now c.end_fields-told.result end c.requires.closes layout
    frames bytes seek few small c.way_back.type_inv in
    let a : c.len-start.result ≡ length c.args.into.now.items = c.len-start.ensures ∙ c.args.into.now.ok.0 in
    let b : c.len.result ≡ length c.push_last.new.into.items = c.len.ensures ∙ c.push_last.new.into.ok.0 in
    let d : c.len-2.result ≡ length c.push_last.new.into.items = c.len-2.ensures ∙ c.push_last.new.into.ok.0 in
    end-written c.push_end_record.result c.args.entry.now c.fields-fields.result.now c.end_fields-told.result end
    c.end_size.result (written_of c.args.self.now) c.args.self.now.used.now c.args.number c.args.table
    c.args.into.now.items c.push_last.new.into.items c.push_end_record.new.into.items
    (record {
      layout = layout;
      closing = c.requires.closes;
      frames = frames;
      bytes = bytes;
      seek = seek;
      sized = c.end_size.ensures.size c.end_fields-told.result end fits;
    })
    (whole-size c.args.self.now.size (length c.args.into.now.items) (length c.push_last.new.into.items) c.len-2.result
    (14 + c.end_size.result) d (longer _ _ c.in_ok-push_last.ensures))
    refl ((λ i. way_back ((sym b i - sym a i) + (14 + c.end_size.result)) c.args.table) ∙ sym c.way_back.ensures)
    c.in_ok-push_last.ensures c.push_end_record.ensures
