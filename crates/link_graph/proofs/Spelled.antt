-- The six bytes of a link.
use Rattle.std.proofs.Common.{◌≡◌, ℕ, ◌<◌, ◌≤◌, ◌^◌, List, [], ◌++◌, length, take, drop, sym, ap, ◌∙◌}
use Rattle.std.proofs.Common.{append-nil}
use borrow.Rule.Slice.PartMut.{put_mid}
use Rattle.std.proofs.lemmas.List.{drop_all, take-append-drop}
use Rattle.scalar_types.specs.declared.Order.{Order}
use Rattle.scalar_types.specs.declared.Width.{Width}
use Rattle.scalar_types.specs.declared.Width.TheVariants.{Two, Four}
use Rattle.scalar_types.specs.Number.{bytes_of, size_of}
use Rattle.scalar_types.proofs.NumberBytes.{bytes_of-length, number-bytes_of}
use Rattle.type_text.specs.declared.types.Link.{Link}
use Rattle.record_values.specs.Spelling.{IsNumber, IsLink}

-- a number is spelled by its bytes
number-spelled : (order : Order) (width : Width) (n : ℕ) → n < 256 ^ size_of width →
    IsNumber order width n (bytes_of order width n)
number-spelled order width n fits =
    record { size = bytes_of-length order width n; value = number-bytes_of order width n fits }

-- The bytes of the class, and those of the instance written behind them: the first write leaves four bytes,
-- the second none.
pub link-spelled : (order : Order) (link : Link) (first second four none : List ℕ) → link.class < 256 ^ 2 →
    link.instance < 256 ^ 4 →
    take 2 first ≡ bytes_of order Two link.class → drop 2 first ≡ four → length four ≤ 4 →
    take 4 second ≡ bytes_of order Four link.instance → drop 4 second ≡ none → none ≡ [] →
    IsLink order link (put_mid 2 4 first second)
link-spelled order link first second four none class instance front rest long back more empty =
    let last : second ≡ bytes_of order Four link.instance =
    sym (take-append-drop 4 second) ∙ (λ i. back i ++ more i)
    ∙ ap (λ xs. bytes_of order Four link.instance ++ xs) empty
    ∙ append-nil (bytes_of order Four link.instance) in
    let behind : drop 4 (drop 2 first) ≡ [] = ap (drop 4) rest ∙ drop_all 4 four long in
    record {
      front = bytes_of order Two link.class;
      back = bytes_of order Four link.instance;
      split = (λ i. front i ++ (last i ++ behind i))
          ∙ ap (λ xs. bytes_of order Two link.class ++ xs) (append-nil (bytes_of order Four link.instance));
      class = number-spelled order Two link.class class;
      instance = number-spelled order Four link.instance instance;
    }
