-- Names, and the leaves that have them.
use Rattle.std.proofs.Common.{◌≡◌, ◌⊎◌, inl, inr, ℕ, Bool, true, false, cond, List, [], ◌∷◌, Option, Some, None, refl, subst}
use Rattle.std.proofs.lemmas.Slice.Eq.{bytes_eq-Decides}
use Rattle.mhl_reader.specs.declared.found.HashLeaf.{HashLeaf}
use Rattle.mhl_reader.specs.declared.found.CreatorLeaf.{CreatorLeaf}
use Rattle.mhl_reader.specs.declared.found.CreatorLeaves.{CreatorLeaves}
use Rattle.mhl_reader.specs.Leaves.{is_named, hash_leaf_name, creator_leaf_name, leaf_named, hash_leaves, creator_leaves, hash_leaf, creator_leaf, has_creator_leaf, unless_met, new_creator_leaf}

pub same_name : (name : List ℕ) → is_named name name ≡ true
same_name name = (bytes_eq-Decides name name).1 refl

-- a name that is a word is that word
pub name_is : (word name : List ℕ) → is_named word name ≡ true → name ≡ word
name_is word name e = (bytes_eq-Decides name word).0 e

abbrev some : {A : Type 0} → A → Option A
some x = Some x

some_is : {A : Type 0} (x y : A) → some x ≡ some y → x ≡ y
some_is x y e = cc

which : {X : Type 0} (b : Bool) (x y z : X) → cond b x y ≡ z → ((b ≡ true) × (x ≡ z)) ⊎ ((b ≡ false) × (y ≡ z))
which true x y z e = inl (refl, e)
which false x y z e = inr (refl, e)

leaf_has_name : {L : Type 0} (name_of : L → List ℕ) (leaves : List L) (name : List ℕ) (leaf : L) → leaf_named name_of leaves name ≡ Some leaf → is_named (name_of leaf) name ≡ true
leaf_has_name name_of [] name leaf e = absurd cc
leaf_has_name {L} name_of (l ∷ leaves) name leaf e =
    elim (which {X = Option L} (is_named (name_of l) name) (Some l) (leaf_named name_of leaves name) (Some leaf) e) [
      | inl h ↦ subst (λ (x : L). is_named (name_of x) name ≡ true) (some_is l leaf h.1) h.0
      | inr h ↦ leaf_has_name name_of leaves name leaf h.1
    ]

pub hash_leaf_has_name : (name : List ℕ) (leaf : HashLeaf) → hash_leaf name ≡ Some leaf → is_named (hash_leaf_name leaf) name ≡ true
unfolding hash_leaf
hash_leaf_has_name name leaf e = leaf_has_name hash_leaf_name hash_leaves name leaf e

creator_leaf_has_name : (name : List ℕ) (leaf : CreatorLeaf) → creator_leaf name ≡ Some leaf → is_named (creator_leaf_name leaf) name ≡ true
unfolding creator_leaf
creator_leaf_has_name name leaf e = leaf_has_name creator_leaf_name creator_leaves name leaf e

unless_met_is : (c : CreatorLeaves) (found : Option CreatorLeaf) (leaf : CreatorLeaf) → unless_met c found ≡ Some leaf → found ≡ Some leaf
unless_met_is c None leaf e = absurd cc
unless_met_is c (Some l) leaf e =
    elim (which {X = Option CreatorLeaf} (has_creator_leaf l c) None (Some l) (Some leaf) e) [
      | inl h ↦ absurd cc
      | inr h ↦ h.1
    ]

pub new_creator_leaf_has_name : (c : CreatorLeaves) (name : List ℕ) (leaf : CreatorLeaf) → new_creator_leaf c name ≡ Some leaf → is_named (creator_leaf_name leaf) name ≡ true
unfolding new_creator_leaf
new_creator_leaf_has_name c name leaf e = creator_leaf_has_name name leaf (unless_met_is c (creator_leaf name) leaf e)
