-- The kinds nest as the document says: the table's lists are the lists of the document's lines. Assumes nothing.
use mathlib.Core.List.{List, [], ◌∷◌, ◌++◌, append_assoc, append-nil}
use mathlib.Core.Path.{refl, sym, ap, subst}
use Rattle.sentence.specs.Grammar.{Writable, kind_of, wants, Nests}
use Rattle.sentence.specs.Grammar.Nests.{end, node}
use Rattle.sentence.specs.Forms.{Form}
use Rattle.sentence.specs.Forms.Form.{truth, label, negation, conjunction, comparison, probability, constant, sum, difference}
use Rattle.sentence.specs.Forms.Form.{product, next, until}
use Rattle.sentence.specs.declared.Kind.{Kind}
use Rattle.sentence.specs.declared.Kind.TheVariants.{State, Expression, Path}
use Rattle.sentence.specs.declared.Node.{Node}
use Rattle.sentence.specs.declared.Node.TheVariants.{True, Label, Not, And, Compare, Probability, Constant, Sum, Difference, Product}
use Rattle.sentence.specs.declared.Node.TheVariants.{Next, Until}

-- two things that a node wants nest before what follows
pair : {k : Kind} (ks : List Kind) (f g r : List Node) → Nests (k ∷ k ∷ ks) (f ++ (g ++ r)) → Nests (k ∷ k ∷ ks) ((f ++ g) ++ r)
pair {k} ks f g r n = subst (Nests (k ∷ k ∷ ks)) (sym (append_assoc f g r)) n

form_nests : {k : Kind} {f : List Node} → Form k f → (ks : List Kind) (r : List Node) → Nests ks r → Nests (k ∷ ks) (f ++ r)
form_nests truth ks r n = node refl refl n
form_nests (label w) ks r n = node w refl n
form_nests (negation a) ks r n = node refl refl (form_nests a ks r n)
form_nests (conjunction {f} {g} a b) ks r n = node refl refl (pair ks f g r (form_nests a (State ∷ ks) (g ++ r) (form_nests b ks r n)))
form_nests (comparison c {d} {e} a b) ks r n =
    node refl refl (pair ks d e r (form_nests a (Expression ∷ ks) (e ++ r) (form_nests b ks r n)))
form_nests (probability a) ks r n = node refl refl (form_nests a ks r n)
form_nests (constant w) ks r n = node w refl n
form_nests (sum {d} {e} a b) ks r n = node refl refl (pair ks d e r (form_nests a (Expression ∷ ks) (e ++ r) (form_nests b ks r n)))
form_nests (difference {d} {e} a b) ks r n = node refl refl (pair ks d e r (form_nests a (Expression ∷ ks) (e ++ r) (form_nests b ks r n)))
form_nests (product {d} {e} a b) ks r n = node refl refl (pair ks d e r (form_nests a (Expression ∷ ks) (e ++ r) (form_nests b ks r n)))
form_nests (next a) ks r n = node refl refl (form_nests a ks r n)
form_nests (until {f = f} {g = g} w a b) ks r n = node w refl (pair ks f g r (form_nests a (State ∷ ks) (g ++ r) (form_nests b ks r n)))

-- things of the kinds ks, one after another
data Parts : List Kind → List Node → Type 0 where
  none : Parts [] []
  part : {k : Kind} {ks : List Kind} (f r : List Node) → Form k f → Parts ks r → Parts (k ∷ ks) (f ++ r)

-- a node and the parts that it wants make one part
one : (n : Node) (k : Kind) (ks : List Kind) {r : List Node} → Parts (k ∷ ks) r → ((f : List Node) → Form k f → Form (kind_of n) (n ∷ f))
    → Parts (kind_of n ∷ ks) (n ∷ r)
one n k ks (part f r a p) make = part (n ∷ f) r (make f a) p

two : (n : Node) (k : Kind) (ks : List Kind) {r : List Node} → Parts (k ∷ k ∷ ks) r
    → ((f g : List Node) → Form k f → Form k g → Form (kind_of n) (n ∷ (f ++ g))) → Parts (kind_of n ∷ ks) (n ∷ r)
two n k ks (part f s a (part g r b p)) make =
    subst (Parts (kind_of n ∷ ks)) (ap (λ (l : List Node). n ∷ l) (append_assoc f g r)) (part (n ∷ (f ++ g)) r (make f g a b) p)

grown : (n : Node) (ks : List Kind) {r : List Node} → Writable n → Parts (wants n ++ ks) r → Parts (kind_of n ∷ ks) (n ∷ r)
grown True ks {r} w p = part (True ∷ []) r truth p
grown (Label l v) ks {r} w p = part (Label l v ∷ []) r (label w) p
grown Not ks w p = one Not State ks p (λ f a. negation a)
grown And ks w p = two And State ks p (λ f g a b. conjunction a b)
grown (Compare c) ks w p = two (Compare c) Expression ks p (λ f g a b. comparison c a b)
grown Probability ks w p = one Probability Path ks p (λ f a. probability a)
grown (Constant a b) ks {r} w p = part (Constant a b ∷ []) r (constant w) p
grown Sum ks w p = two Sum Expression ks p (λ f g a b. sum a b)
grown Difference ks w p = two Difference Expression ks p (λ f g a b. difference a b)
grown Product ks w p = two Product Expression ks p (λ f g a b. product a b)
grown Next ks w p = one Next State ks p (λ f a. next a)
grown (Until c d) ks w p = two (Until c d) State ks p (λ f g a b. until w a b)

parts : {ks : List Kind} {ns : List Node} → Nests ks ns → Parts ks ns
parts end = none
parts (node {n = n} {ks = ks} {ns = ns} w e rest) = subst (λ (k : Kind). Parts (k ∷ ks) (n ∷ ns)) e (grown n ks w (parts rest))

single : {k : Kind} {ns : List Node} → Parts (k ∷ []) ns → Form k ns
single {k} (part f r a p) = by p
  where
    by : {s : List Node} → Parts [] s → Form k (f ++ s)
    by none = subst (Form k) (sym (append-nil f)) a

-- a list nests from a kind on exactly if the document's lines make it a thing of that kind
pub nests_forms : (k : Kind) (ns : List Node) → (Nests (k ∷ []) ns → Form k ns) × (Form k ns → Nests (k ∷ []) ns)
nests_forms k ns = (λ n. single (parts n), λ f. subst (Nests (k ∷ [])) (append-nil ns) (form_nests f [] [] end))
