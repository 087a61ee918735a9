-- Ends that are alike: alike to itself, both ways, and one after another. So equality of graphs is reflexive, symmetric
-- and transitive.
use Rattle.std.proofs.Common.{◌≡◌, ℕ, refl, sym, ◌∙◌}
use Rattle.rooted_graph.specs.Rooted.{End, Node, Null, Undefined, end_of}
use Rattle.rooted_graph.specs.SameGraph.{Labelled, AlikeEnds, EqualLabels, SameGraph}

pub alike_weaker : (R Q : ℕ → ℕ → Type 0) → ((n m : ℕ) → R n m → Q n m) → (e e' : End) → AlikeEnds R e e'
    → AlikeEnds Q e e'
alike_weaker R Q h (Node n) (Node m) a = h n m a
alike_weaker R Q h (Node n) Null a = absurd a
alike_weaker R Q h (Node n) Undefined a = absurd a
alike_weaker R Q h Null (Node m) a = absurd a
alike_weaker R Q h Null Null a = tt
alike_weaker R Q h Null Undefined a = absurd a
alike_weaker R Q h Undefined (Node m) a = absurd a
alike_weaker R Q h Undefined Null a = absurd a
alike_weaker R Q h Undefined Undefined a = tt

-- what is alike to a node is a node
pub alike_to_node : (R : ℕ → ℕ → Type 0) (n : ℕ) (e : End) → AlikeEnds R (Node n) e → (m : ℕ) × (e ≡ Node m) × R n m
alike_to_node R n (Node m) a = (m, refl, a)
alike_to_node R n Null a = absurd a
alike_to_node R n Undefined a = absurd a

pub alike_refl : (R : ℕ → ℕ → Type 0) → ((n : ℕ) → R n n) → (e : End) → AlikeEnds R e e
alike_refl R h (Node n) = h n
alike_refl R h Null = tt
alike_refl R h Undefined = tt

pub alike_sym : (R Q : ℕ → ℕ → Type 0) → ((n m : ℕ) → R n m → Q m n) → (e e' : End) → AlikeEnds R e e'
    → AlikeEnds Q e' e
alike_sym R Q h (Node n) (Node m) a = h n m a
alike_sym R Q h (Node n) Null a = absurd a
alike_sym R Q h (Node n) Undefined a = absurd a
alike_sym R Q h Null (Node m) a = absurd a
alike_sym R Q h Null Null a = tt
alike_sym R Q h Null Undefined a = absurd a
alike_sym R Q h Undefined (Node m) a = absurd a
alike_sym R Q h Undefined Null a = absurd a
alike_sym R Q h Undefined Undefined a = tt

pub alike_trans : (R Q S : ℕ → ℕ → Type 0) → ((n m k : ℕ) → R n m → Q m k → S n k) → (e e' e'' : End) → AlikeEnds R e e'
    → AlikeEnds Q e' e'' → AlikeEnds S e e''
alike_trans R Q S h (Node n) (Node m) (Node k) a b = h n m k a b
alike_trans R Q S h (Node n) (Node m) Null a b = absurd b
alike_trans R Q S h (Node n) (Node m) Undefined a b = absurd b
alike_trans R Q S h (Node n) Null e'' a b = absurd a
alike_trans R Q S h (Node n) Undefined e'' a b = absurd a
alike_trans R Q S h Null (Node m) e'' a b = absurd a
alike_trans R Q S h Null Null (Node k) a b = absurd b
alike_trans R Q S h Null Null Null a b = tt
alike_trans R Q S h Null Null Undefined a b = absurd b
alike_trans R Q S h Null Undefined e'' a b = absurd a
alike_trans R Q S h Undefined (Node m) e'' a b = absurd a
alike_trans R Q S h Undefined Null e'' a b = absurd a
alike_trans R Q S h Undefined Undefined (Node k) a b = absurd b
alike_trans R Q S h Undefined Undefined Null a b = absurd b
alike_trans R Q S h Undefined Undefined Undefined a b = tt

pub same_refl : {L : Type 0} (f : Labelled L) → SameGraph f f
same_refl f = record {
  ends = λ p. alike_refl (EqualLabels f f) (λ n. refl) (end_of f.graph p);
  meet = λ p q. (λ m. m, λ m. m);
  end_labels = refl;
}

pub same_sym : {L : Type 0} (f g : Labelled L) → SameGraph f g → SameGraph g f
same_sym f g h =
    record {
      ends = λ p. alike_sym (EqualLabels f g) (EqualLabels g f) (λ n m e. sym e) (end_of f.graph p)
          (end_of g.graph p) (h.ends p);
      meet = λ p q. ((h.meet p q).1, (h.meet p q).0);
      end_labels = sym h.end_labels;
    }

pub same_trans : {L : Type 0} (f g h : Labelled L) → SameGraph f g → SameGraph g h → SameGraph f h
same_trans f g h a b =
    record {
      ends = λ p. alike_trans (EqualLabels f g) (EqualLabels g h) (EqualLabels f h) (λ n m k e e'. e ∙ e')
          (end_of f.graph p) (end_of g.graph p) (end_of h.graph p) (a.ends p) (b.ends p);
      meet = λ p q. (λ m. (b.meet p q).0 ((a.meet p q).0 m), λ m. (a.meet p q).1 ((b.meet p q).1 m));
      end_labels = a.end_labels ∙ b.end_labels;
    }
