-- The records of a frame: twins, and the frame's FrameH.
use Rattle.std.proofs.Common.{◌≡◌, true, false, not, List, [], ◌∷◌, refl, sym, ap, true≢false}
use Rattle.std.specs.Prelude.{◌==◌}
use Rattle.std.proofs.lemmas.Bool.{and_parts, and_from, eqb-true, eq-eqb, both_ways, false_from_ne_true}
use Rattle.dictionary.specs.declared.entries.Entry.{Entry}
use Rattle.file_grammar.specs.declared.kind.Kind.{Kind}
use Rattle.file_grammar.specs.declared.kind.Kind.TheVariants.{FrameH}
use Rattle.file_grammar.specs.Structure.{Structure}
use Rattle.file_grammar.specs.Kind.{kind_of, is_header_kind}
use Rattle.file_grammar.specs.MayStand.{IsNewIn, HasHeader}
use Rattle.file_grammar.specs.Fault.{is_twin, has_twin, has_header, is_empty}
use Rattle.file_grammar.proofs.Places.{found-Any, Any-found}

-- the records with a structure's class and instance
abbrev Twin : Structure → Structure → Type 0
Twin s t = (t.class ≡ s.class) × (t.instance ≡ s.instance)

is_twin-tells : (s t : Structure) → is_twin s t ≡ true → Twin s t
is_twin-tells s t e =
    let both = and_parts (s.class == t.class) (s.instance == t.instance) e in
    (sym (eqb-true s.class t.class both.0), sym (eqb-true s.instance t.instance both.1))

twin-is_twin : (s t : Structure) → Twin s t → is_twin s t ≡ true
twin-is_twin s t twin =
    and_from _ _ (eq-eqb s.class t.class (sym twin.0)) (eq-eqb s.instance t.instance (sym twin.1))

pub new-unless_twin : (frame : List Structure) (s : Structure) → has_twin frame s ≡ false → IsNewIn frame s
new-unless_twin frame s none some =
    both_ways (has_twin frame s) none (Any-found (is_twin s) (Twin s) frame (twin-is_twin s) some)

pub no_twin-new : (frame : List Structure) (s : Structure) → IsNewIn frame s → has_twin frame s ≡ false
no_twin-new frame s new =
    false_from_ne_true (has_twin frame s) (λ is. new (found-Any (is_twin s) (Twin s) frame (is_twin-tells s) is))

-- the frame's FrameH
is_header-tells : (k : Kind) → is_header_kind k ≡ true → k ≡ FrameH
is_header-tells FrameH e = refl
is_header-tells k e = absurd (true≢false (sym e))

pub header-found : (held : List Entry) (frame : List Structure) → has_header held frame ≡ true → HasHeader held frame
header-found held frame is =
    found-Any (λ t. is_header_kind (kind_of held t.class)) (λ t. kind_of held t.class ≡ FrameH) frame
    (λ t e. is_header-tells (kind_of held t.class) e) is

pub header-again : (held : List Entry) (frame : List Structure) → HasHeader held frame → has_header held frame ≡ true
header-again held frame some =
    Any-found (λ t. is_header_kind (kind_of held t.class)) (λ t. kind_of held t.class ≡ FrameH) frame
    (λ t e. ap is_header_kind e) some

-- an empty frame
pub empty-is : {A : Type 0} (xs : List A) → not (is_empty xs) ≡ false → xs ≡ []
empty-is [] e = refl
empty-is (x ∷ xs) e = absurd (true≢false e)
