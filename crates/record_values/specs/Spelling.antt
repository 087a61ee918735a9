-- How one item of a record's body is spelled, as the Common Data Frame Format has it (LIGO-T970130 v8: data types,
-- STRING, PTR_STRUCT).
use Rattle.std.specs.Prelude.{◌≡◌, ℕ, ◌+◌, ◌⊎◌, List, [], ◌∷◌, ◌++◌, length}
use Rattle.scalar_types.specs.declared.Order.{Order}
use Rattle.scalar_types.specs.declared.Width.{Width}
use Rattle.scalar_types.specs.declared.Width.TheVariants.{Two, Four}
use Rattle.scalar_types.specs.Number.{number, size_of}
use Rattle.type_text.specs.declared.types.Link.{Link}

-- The bytes are the number, at this width.
pub record IsNumber (order : Order) (width : Width) (n : ℕ) (bytes : List ℕ) : Type 0 where
  pub size : length bytes ≡ size_of width
  pub value : number order bytes ≡ n

-- The bytes are the first number of the pair, then the second: a complex number's real and imaginary part.
pub record IsPair (order : Order) (width : Width) (pair : ℕ × ℕ) (bytes : List ℕ) : Type 0 where
  pub front : List ℕ
  pub back : List ℕ
  pub split : bytes ≡ front ++ back
  pub first : IsNumber order width pair.0 front
  pub second : IsNumber order width pair.1 back

-- The bytes are a two-byte length that counts the closing zero byte, the text, and the zero byte. So the text has at
-- most 65,534 bytes, as many as two bytes can count.
pub record IsClosedText (order : Order) (text bytes : List ℕ) : Type 0 where
  pub front : List ℕ
  pub split : bytes ≡ front ++ text ++ 0 ∷ []
  pub size : IsNumber order Two (length text + 1) front

-- The bytes are a two-byte length of 0 alone, which also spells the empty text.
pub record IsBareText (order : Order) (text bytes : List ℕ) : Type 0 where
  pub size : IsNumber order Two 0 bytes
  pub empty : text ≡ []

-- The bytes spell the text.
abbrev pub IsText : Order → List ℕ → List ℕ → Type 0
IsText order text bytes = IsClosedText order text bytes ⊎ IsBareText order text bytes

-- The bytes are the link's two-byte class, then its four-byte instance. Class 0 is the null link.
pub record IsLink (order : Order) (link : Link) (bytes : List ℕ) : Type 0 where
  pub front : List ℕ
  pub back : List ℕ
  pub split : bytes ≡ front ++ back
  pub class : IsNumber order Two link.class front
  pub instance : IsNumber order Four link.instance back

-- The bytes spell these items one after another, each by R.
abbrev pub AreItems : {X : Type 0} → (X → List ℕ → Type 0) → List X → List ℕ → Type 0
AreItems R [] bytes = bytes ≡ []
AreItems R (x ∷ xs) bytes =
    (front rest : List ℕ) × (bytes ≡ front ++ rest) × R x front × AreItems R xs rest
