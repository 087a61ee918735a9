-- How a dump ends: what the sink has got by what was answered.
use Rattle.std.proofs.Common.{◌≡◌, ℕ, inl, inr, List, [], ◌++◌, Option, Some, None, Result, Ok, Err}
use Rattle.std.proofs.Common.{OnErr, refl}
use Rattle.std.proofs.Common.{sym, ap, subst, ◌∙◌, append-nil}
use Rattle.scalar_types.specs.declared.Order.{Order}
use Rattle.frame_outside.specs.Sink.{Output, Appends}
use Rattle.frame_outside.specs.declared.traits.ShelfError.{ShelfError}
use Rattle.frame_outside.specs.declared.traits.ShelfError.TheVariants.{Failed, NoMemory}
use Rattle.file_grammar.specs.declared.fault.Fault.{Fault}
use Rattle.file_grammar.specs.Fault.{IsHeaderFault}
use Rattle.item_reader.specs.declared.item.ReadError.{ReadError}
use Rattle.item_reader.specs.declared.item.ReadError.TheVariants as read
use Rattle.dumper.specs.declared.files.DumpError.TheVariants as error
use Rattle.dumper.specs.Errors.{read_error, shelf_error}
use Rattle.dumper.specs.Page.{AppendsPrefix, Carries, CarriesOrStops}
use Rattle.dumper.specs.Due.{lines_of, items_shown, IsDump, Dumps}
use Rattle.dumper.specs.Printing.{PrintsAll, PrintsUntil, PrintsSome}
use Rattle.dumper.proofs.OneDump.{one-dump}
use Rattle.dumper.proofs.FirstLines.{first-lines}
use Rattle.dumper.proofs.Pages.{appends-nothing, prefix-longer, prefix-none, prints-then, carried-then}
use Rattle.dumper.proofs.PrintedItems.{stopped-prefix}

-- ---- what was pending is put

-- then the sink has got the text
flushed : (old mid new : Output) (p q s t : List ℕ) → p ≡ [] → s ≡ [] → Carries old mid p q t
    → Carries mid new q s [] → Appends old new t
flushed old mid new p q s t nothing empty g h =
    let all : Carries old new p s (t ++ []) = carried-then old mid new p q s t [] g h in
    subst (Appends old new)
    (sym (append-nil all.put) ∙ ap (λ s. all.put ++ s) (sym empty) ∙ all.split ∙ ap (λ p. p ++ (t ++ [])) nothing
    ∙ append-nil t)
    all.appends

-- or a prefix of it
cut : {X : Type 0} (old mid new : Output) (p q s t : List ℕ) (e : ShelfError) (result : Result X ShelfError)
    → result ≡ Err e → p ≡ [] → Carries old mid p q t → CarriesOrStops mid new q s [] result
    → AppendsPrefix old new t
cut old mid new p q s t e result is nothing g h =
    subst (AppendsPrefix old new) (ap (λ p. p ++ (t ++ [])) nothing ∙ append-nil t)
    (stopped-prefix old new p s (t ++ []) e result is (prints-then old mid new p q s t [] result g h))

-- what is said of a refusal
pub put-cut : {X : Type 0} (old mid new : Output) (p q s t : List ℕ) (result : Result X ShelfError) → p ≡ []
    → Carries old mid p q t → CarriesOrStops mid new q s [] result → OnErr result (AppendsPrefix old new t)
put-cut {X} old mid new p q s t (Ok x) nothing g h = tt
put-cut {X} old mid new p q s t (Err e) nothing g h =
    let result : Result X ShelfError = Err e in
    let same : result ≡ Err e = refl in
    cut {X = X} old mid new p q s t e result same nothing g h

-- ---- refusals

-- what holds of a refusal
refused : (file : List ℕ) (old new : Output) (e : ShelfError)
    → ((fault : Option Fault) (text : List ℕ) → IsDump file fault text → AppendsPrefix old new text)
    → Dumps file old new (Err (shelf_error e))
refused file old new Failed prefix = prefix
refused file old new NoMemory prefix = prefix

-- nothing was put
nothing-put : (o : Output) (file : List ℕ) (fault : Option Fault) (text : List ℕ) → IsDump file fault text
    → AppendsPrefix o o text
nothing-put o file fault text dump = prefix-none o o text (appends-nothing o)

-- a prefix of a dump
of-dump : (file : List ℕ) (old new : Output) (found fault : Option Fault) (lines text : List ℕ)
    → IsDump file found lines → AppendsPrefix old new lines → IsDump file fault text → AppendsPrefix old new text
of-dump file old new found fault lines text due appends dump =
    subst (AppendsPrefix old new) (one-dump file found fault lines text due dump).1 appends

-- a prefix of the lines of first items
pub dumps-some : (file : List ℕ) (order : Order) (old new : Output) (p : List ℕ) → p ≡ []
    → PrintsSome file order old new p → (fault : Option Fault) (text : List ℕ) → IsDump file fault text
    → AppendsPrefix old new text
dumps-some file order old new p nothing some fault text dump =
    let longer = first-lines file order some.items some.last fault text some.begins some.end dump in
    subst (AppendsPrefix old new) (sym longer.1)
    (prefix-longer old new (lines_of order some.items) longer.0
    (subst (AppendsPrefix old new) (ap (λ p. p ++ lines_of order some.items) nothing) some.appends))

-- ---- the whole file

whole-dump : (file : List ℕ) (order : Order) (old mid : Output) (p q : List ℕ)
    (all : PrintsAll file order old mid p q) → IsDump file None (lines_of order all.items)
whole-dump file order old mid p q all =
    record { order = order; items = all.items; last = all.last; whole = all.whole; is = refl }

pub dumps-all : (file : List ℕ) (order : Order) (old mid new : Output) (p q s : List ℕ) → p ≡ [] → s ≡ []
    → PrintsAll file order old mid p q → Carries mid new q s [] → Dumps file old new (Ok tt)
dumps-all file order old mid new p q s nothing empty all h = (
  lines_of order all.items,
  whole-dump file order old mid p q all,
  flushed old mid new p q s (lines_of order all.items) nothing empty all.carries h,
)

pub dumps-cut : {X : Type 0} (file : List ℕ) (order : Order) (old mid new : Output) (p q s : List ℕ) (e : ShelfError)
    (result : Result X ShelfError) → result ≡ Err e → p ≡ [] → PrintsAll file order old mid p q
    → CarriesOrStops mid new q s [] result → Dumps file old new (Err (shelf_error e))
dumps-cut file order old mid new p q s e result is nothing all h =
    refused file old new e (λ fault text.
    of-dump file old new None fault (lines_of order all.items) text (whole-dump file order old mid p q all)
    (cut old mid new p q s (lines_of order all.items) e result is nothing all.carries h))

-- ---- up to a fault

until-dump : (file : List ℕ) (order : Order) (fault : Fault) (old mid : Output) (p q : List ℕ)
    (until : PrintsUntil file order fault old mid p q)
    → IsDump file (Some fault) (lines_of order (items_shown until.is_fault.last until.is_fault.items))
until-dump file order fault old mid p q until =
    inr (record {
      is_fault = until.is_fault;
      is = ap (λ o. lines_of o (items_shown until.is_fault.last until.is_fault.items)) (sym until.order_is);
    })

pub dumps-until : (file : List ℕ) (order : Order) (fault : Fault) (old mid new : Output) (p q s : List ℕ) → p ≡ []
    → s ≡ [] → PrintsUntil file order fault old mid p q → Carries mid new q s []
    → Dumps file old new (Err (error.Fault fault))
dumps-until file order fault old mid new p q s nothing empty until h =
    let lines = lines_of order (items_shown until.is_fault.last until.is_fault.items) in (
      lines,
      until-dump file order fault old mid p q until,
      flushed old mid new p q s lines nothing empty until.carries h,
    )

pub dumps-until_cut : {X : Type 0} (file : List ℕ) (order : Order) (found : Fault) (old mid new : Output)
    (p q s : List ℕ) (e : ShelfError) (result : Result X ShelfError) → result ≡ Err e → p ≡ []
    → PrintsUntil file order found old mid p q → CarriesOrStops mid new q s [] result
    → Dumps file old new (Err (shelf_error e))
dumps-until_cut file order found old mid new p q s e result is nothing until h =
    let lines = lines_of order (items_shown until.is_fault.last until.is_fault.items) in
    refused file old new e (λ fault text.
    of-dump file old new (Some found) fault lines text (until-dump file order found old mid p q until)
    (cut old mid new p q s lines e result is nothing until.carries h))

-- ---- nothing was printed

-- the header was not read, or is wrong
pub dumps-unbegun : (file : List ℕ) (o : Output) (e : ReadError)
    → ((fault : Fault) → e ≡ read.Fault fault → IsHeaderFault file fault) → Dumps file o o (Err (read_error e))
dumps-unbegun file o (read.Fault fault) header = ([], inl (header fault refl, refl), appends-nothing o)
dumps-unbegun file o read.Device header = nothing-put o file
dumps-unbegun file o read.NoMemory header = nothing-put o file

-- the file was not opened
pub dumps-unopened : (file : List ℕ) (o : Output) (e : ShelfError) → Dumps file o o (Err (shelf_error e))
dumps-unopened file o e = refused file o o e (nothing-put o file)
