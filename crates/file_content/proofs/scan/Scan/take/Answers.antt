-- Each item by the lemma of its kind.
use Rattle.std.proofs.Common.{rules, ◌≡◌, true, Some, refl, ap, subst, sym, ◌∙◌}
use Rattle.dictionary.specs.Dictionary.{IsDictionary}
use Rattle.item_reader.specs.declared.item.Item.TheVariants as given
use Rattle.item_reader.specs.Reader.{Goes}
use Rattle.link_graph.specs.Collected.{Collected}
use Rattle.link_graph.proofs.Found.{ok-map}
use Rattle.frame_content.specs.Frames.{frame_of}
use Rattle.contents_table.specs.Built.{with_frame_of}
use Rattle.contents_table.specs.Layouts.{layouts_of}
use Rattle.file_content.proofs.Scanning.{entry-brings, same-dictionary, frame-brings, table-brings, other-brings}
use Rattle.file_content.proofs.scan.Scan.take.Goals as goal

pub returns-in-Entry-default-default-true : goal.returns-in-Entry-default-default-true
returns-in-Entry-default-default-true c = λ file before scanned goes same.
    let i = c.in-Entry-default-default-true in
    entry-brings file before c.args.reader.now i.at i.class i.changed c.args.self.now
    (record c.args.self.now { layouts = c.of-self.result }) scanned
    (subst (λ item. Goes file before item c.args.reader.now) i.is goes) same
    (c.requires.last ∙ ap (λ item. Some item) i.is)
    (subst IsDictionary c.dictionary.ensures c.of-self.ensures.sound)
    (c.of-self.ensures.layouts ∙ ap layouts_of c.dictionary.ensures) refl refl

pub returns-in-FrameEnd : goal.returns-in-FrameEnd
returns-in-FrameEnd c = ok-map c.add_segment.result (λ added file before scanned goes same.
    let i = c.in-FrameEnd in
    frame-brings file before c.args.reader.now i.at i.class c.args.self.now
    (record c.args.self.now { channels = c.add_segment.new.self }) c.plans.result.now scanned
    (subst (λ item. Goes file before item c.args.reader.now) i.is goes) same
    (c.requires.last ∙ ap (λ item. Some item) i.is) (c.plans.ensures c.requires.error) refl refl
    (λ held are. added held are
    ∙ ap (λ (s : Collected). with_frame_of s.nodes (frame_of held s) c.args.self.now.channels)
    c.segment.ensures.segment)) c.add_segment.ensures

pub returns-in_ok-state-in-Table : goal.returns-in_ok-state-in-Table
returns-in_ok-state-in-Table c = λ file before scanned goes same.
    let i = c.in-Table in
    table-brings file before c.args.reader.now i.at i.class i.length c.args.self.now
    (record c.args.self.now { table = Some (record { at = i.at; state = c.in_ok-state-in-Table.state }) })
    c.in_ok-state-in-Table.state scanned
    (subst (λ item. Goes file before item c.args.reader.now) i.is goes) same
    (c.requires.last ∙ ap (λ item. Some item) i.is) c.in_ok-state-in-Table.ensures refl refl refl

pub returns-in-Entry : goal.returns-in-Entry
returns-in-Entry c = λ file before scanned goes same.
    let i = c.in-Entry in
    let goes : Goes file before (given.Entry i.at i.class i.changed) c.args.reader.now =
    subst (λ item. Goes file before item c.args.reader.now) i.is goes in
    let d = same-dictionary file before c.args.reader.now i.at i.class
    (subst (λ changed. Goes file before (given.Entry i.at i.class changed) c.args.reader.now) i.changed-test goes) in
    entry-brings file before c.args.reader.now i.at i.class i.changed c.args.self.now c.args.self.now scanned goes same
    (c.requires.last ∙ ap (λ item. Some item) i.is) (subst IsDictionary (sym d) scanned.sound)
    (scanned.layouts_are ∙ ap layouts_of (sym d)) refl refl

pub returns-in_default : goal.returns-in_default
returns-in_default c = λ file before scanned goes same.
    other-brings file before c.args.reader.now c.args.item c.args.self.now c.in_default.not-Entry
    c.in_default.not-FrameEnd c.in_default.not-Table scanned goes same c.requires.last
