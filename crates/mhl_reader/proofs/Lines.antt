-- The lines of an entry and of a creator spell their leaves.
use Rattle.std.proofs.Common.{◌≡◌, inl, ℕ, Bool, false, cond, List, [], ◌∷◌, ◌++◌, Option, Some, None, refl, sym, ap, subst, ◌∙◌, append_assoc, codes}
use Rattle.std.specs.Prelude.{IsTrue, IfSome}
use Rattle.path_text.specs.Path.{is_path}
use Rattle.markup.specs.Piece.{IsName}
use Rattle.mhl_writer.specs.ListText.{escaped, part, line, file_line}
use Rattle.mhl_writer.specs.declared.values.HashEntry.{HashEntry}
use Rattle.mhl_reader.specs.declared.found.HashLeaf.{HashLeaf}
use Rattle.mhl_reader.specs.declared.found.HashLeaf.TheVariants.{File, Size, Modified, Hashed, Md5, Sha1, Xxh}
use Rattle.mhl_reader.specs.declared.found.HashLeaves.{HashLeaves}
use Rattle.mhl_reader.specs.declared.found.CreatorLeaf.{CreatorLeaf}
use Rattle.mhl_reader.specs.declared.found.CreatorLeaf.TheVariants.{Name, Username, Hostname, Tool, Started, Finished}
use Rattle.mhl_reader.specs.declared.found.CreatorLeaves.{CreatorLeaves}
use Rattle.mhl_reader.specs.Leaves.{hash_leaf_name, creator_leaf_name, hash_leaf, creator_leaf, has_leaf, is_taken, with_value, with_leaf, has_creator_leaf, unless_met, new_creator_leaf, with_creator_leaf}
use Rattle.mhl_reader.specs.Grammar.{Content, element, Leaf, HashContent, CreatorContent}
use Rattle.mhl_reader.proofs.Spelt.{Spells, TakesBlank, tag, end_of, spells_blank, spells_blanks, spells_text, spells_element}
use Rattle.mhl_reader.proofs.Told.{IsSigns, path_told}

-- a line feed behind a part, with the rest
behind : (a b w c rest : List ℕ) → ((a ++ b) ++ (w ++ (c ++ 10 ∷ []))) ++ rest ≡ a ++ (b ++ (w ++ (c ++ 10 ∷ rest)))
behind a b w c rest = simp append_assoc

-- the line of a leaf of this name
abbrev pub leaf_line : List ℕ → List ℕ → List ℕ
leaf_line name written = line (codes "    " ++ tag name []) written (end_of name ++ 10 ∷ [])

-- such a line is filler, an element with a text, and filler
spells_line : (P Q : Content → Type 0) (name value written rest : List ℕ) → IsName name → written ≡ escaped value → TakesBlank P → TakesBlank Q
    → ((place end : ℕ) (c d : Content) → Leaf [] c value → P d → Q (element place name [] c end d)) → Spells P rest → Spells Q (leaf_line name written ++ rest)
spells_line P Q name value written rest is same fill_behind fill_before then more =
    let T = λ (c : Content). Leaf [] c value in
    let inside : Spells T written = subst (Spells T) (sym same) (spells_text value) in
    let after : Spells P (10 ∷ rest) = spells_blank P 10 rest fill_behind refl more in
    let whole = spells_element T P Q name [] written (10 ∷ rest) (is, tt, refl) then inside after in
    subst (Spells Q) (sym (behind (codes "    ") (tag name []) written (end_of name) rest)) (spells_blanks Q (codes "    ") (tag name [] ++ (written ++ (end_of name ++ 10 ∷ rest))) fill_before refl whole)

-- a part that is there or not
spells_part : {A : Type 0} (P : Option A → Content → Type 0) (Good : A → Type 0) (line_of : A → List ℕ) (o : Option A) (rest : List ℕ)
    → ((x : A) → Good x → Spells (P (Some x)) rest → Spells (P None) (line_of x ++ rest)) → IfSome o Good → Spells (P o) rest → Spells (P None) (part line_of o ++ rest)
spells_part P Good line_of None rest lines good more = more
spells_part P Good line_of (Some x) rest lines good more = lines x good more

-- ---- a leaf of a hash

hash_name : (leaf : HashLeaf) → IsName (hash_leaf_name leaf)
hash_name File = (refl, refl)
hash_name Size = (refl, refl)
hash_name Modified = (refl, refl)
hash_name Hashed = (refl, refl)
hash_name Md5 = (refl, refl)
hash_name Sha1 = (refl, refl)
hash_name Xxh = (refl, refl)

hash_leaf_is : (leaf : HashLeaf) → hash_leaf (hash_leaf_name leaf) ≡ Some leaf
unfolding hash_leaf
hash_leaf_is File = refl
hash_leaf_is Size = refl
hash_leaf_is Modified = refl
hash_leaf_is Hashed = refl
hash_leaf_is Md5 = refl
hash_leaf_is Sha1 = refl
hash_leaf_is Xxh = refl

-- content of a hash behind which these leaves were read
abbrev pub Hash : List HashEntry → HashLeaves → HashLeaves → Content → Type 0
Hash earlier out h c = HashContent earlier h c out

pub hash_blank : (earlier : List HashEntry) (out h : HashLeaves) → TakesBlank (Hash earlier out h)
hash_blank earlier out h place bytes c blank p = (blank, p)

spells_hash_leaf : (earlier : List HashEntry) (out h next : HashLeaves) (leaf : HashLeaf) (value written rest : List ℕ) → has_leaf leaf h ≡ false → with_leaf earlier leaf value h ≡ Some next → written ≡ escaped value
    → Spells (Hash earlier out next) rest → Spells (Hash earlier out h) (leaf_line (hash_leaf_name leaf) written ++ rest)
spells_hash_leaf earlier out h next leaf value written rest first added same more =
    spells_line (Hash earlier out next) (Hash earlier out h) (hash_leaf_name leaf) value written rest (hash_name leaf) same (hash_blank earlier out next) (hash_blank earlier out h)
    (λ place end c d t p. inl (leaf, value, next, hash_leaf_is leaf, first, t, added, p)) more

-- the line of a path
pub spells_file : (earlier : List HashEntry) (out h : HashLeaves) (path rest : List ℕ) → IsTrue (is_path path) → is_taken earlier path ≡ false → Spells (Hash earlier out (record h { file = Some path })) rest
    → Spells (Hash earlier out (record h { file = None })) (file_line path ++ rest)
spells_file earlier out h path rest good free =
    let added = ap (λ (o : Option (List ℕ)). with_value o (λ (path : List ℕ). record h { file = Some path })) (path_told earlier path good free) in
    spells_hash_leaf earlier out (record h { file = None }) (record h { file = Some path }) File path (escaped path) rest refl added refl

-- a leaf whose value is there or not
pub spells_hash_part : {A : Type 0} (earlier : List HashEntry) (out : HashLeaves) (leaf : HashLeaf) (Good : A → Type 0) (text : A → List ℕ) (with_it : Option A → HashLeaves) (o : Option A) (rest : List ℕ)
    → has_leaf leaf (with_it None) ≡ false → ((x : A) → Good x → with_leaf earlier leaf (text x) (with_it None) ≡ Some (with_it (Some x))) → ((x : A) → Good x → IsSigns (text x)) → IfSome o Good
    → Spells (Hash earlier out (with_it o)) rest → Spells (Hash earlier out (with_it None)) (part (λ x. leaf_line (hash_leaf_name leaf) (text x)) o ++ rest)
spells_hash_part earlier out leaf Good text with_it o rest first added signs good more =
    spells_part (λ o. Hash earlier out (with_it o)) Good (λ x. leaf_line (hash_leaf_name leaf) (text x)) o rest
    (λ x g. spells_hash_leaf earlier out (with_it None) (with_it (Some x)) leaf (text x) (text x) rest first (added x g) (signs x g).same) good more

-- ---- a leaf of a creator

creator_name : (leaf : CreatorLeaf) → IsName (creator_leaf_name leaf)
creator_name Name = (refl, refl)
creator_name Username = (refl, refl)
creator_name Hostname = (refl, refl)
creator_name Tool = (refl, refl)
creator_name Started = (refl, refl)
creator_name Finished = (refl, refl)

creator_leaf_is : (leaf : CreatorLeaf) → creator_leaf (creator_leaf_name leaf) ≡ Some leaf
unfolding creator_leaf
creator_leaf_is Name = refl
creator_leaf_is Username = refl
creator_leaf_is Hostname = refl
creator_leaf_is Tool = refl
creator_leaf_is Started = refl
creator_leaf_is Finished = refl

new_leaf : (k : CreatorLeaves) (leaf : CreatorLeaf) → has_creator_leaf leaf k ≡ false → new_creator_leaf k (creator_leaf_name leaf) ≡ Some leaf
unfolding new_creator_leaf
new_leaf k leaf first = ap (unless_met k) (creator_leaf_is leaf) ∙ ap (λ (b : Bool). cond b None (Some leaf)) first

-- content of a creator behind which these leaves were read
abbrev pub Makes : CreatorLeaves → CreatorLeaves → Content → Type 0
Makes out k c = CreatorContent k c out

pub creator_blank : (out k : CreatorLeaves) → TakesBlank (Makes out k)
creator_blank out k place bytes c blank p = (blank, p)

spells_creator_leaf : (out k next : CreatorLeaves) (leaf : CreatorLeaf) (value written rest : List ℕ) → has_creator_leaf leaf k ≡ false → with_creator_leaf leaf value k ≡ next → written ≡ escaped value
    → Spells (Makes out next) rest → Spells (Makes out k) (leaf_line (creator_leaf_name leaf) written ++ rest)
spells_creator_leaf out k next leaf value written rest first added same more =
    let made = with_creator_leaf leaf value k in
    spells_line (Makes out made) (Makes out k) (creator_leaf_name leaf) value written rest (creator_name leaf) same (creator_blank out made) (creator_blank out k)
    (λ place end c d t p. inl (leaf, value, new_leaf k leaf first, t, p))
    (subst (λ (k : CreatorLeaves). Spells (Makes out k) rest) (sym added) more)

-- a leaf whose value is there or not, and how its text is written
pub spells_creator_part : {A : Type 0} (out : CreatorLeaves) (leaf : CreatorLeaf) (Good : A → Type 0) (text written : A → List ℕ) (with_it : Option A → CreatorLeaves) (o : Option A) (rest : List ℕ)
    → has_creator_leaf leaf (with_it None) ≡ false → ((x : A) → Good x → with_creator_leaf leaf (text x) (with_it None) ≡ with_it (Some x)) → ((x : A) → Good x → written x ≡ escaped (text x)) → IfSome o Good
    → Spells (Makes out (with_it o)) rest → Spells (Makes out (with_it None)) (part (λ x. leaf_line (creator_leaf_name leaf) (written x)) o ++ rest)
spells_creator_part out leaf Good text written with_it o rest first added same good more =
    spells_part (λ o. Makes out (with_it o)) Good (λ x. leaf_line (creator_leaf_name leaf) (written x)) o rest
    (λ x g. spells_creator_leaf out (with_it None) (with_it (Some x)) leaf (text x) (written x) rest first (added x g) (same x g)) good more
