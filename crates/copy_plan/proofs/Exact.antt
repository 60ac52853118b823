-- Each field of a plan is read back, whatever follows.
use Rattle.copy_plan.proofs.Texts.{path_bounds, label_bounds, empty_path}
use Rattle.std.specs.Prelude.{◌==◌, nat_eq}
use Rattle.std.proofs.Common.{◌%◌, ◌/◌, get_or, ◌≡◌, ℕ, ◌^◌, ◌<◌, Bool, true, false, List, [], ◌∷◌, ◌++◌, length, drop, refl, sym, ◌∙◌, ap, arith, append_assoc}
use Rattle.std.specs.Int.{w16, w32, w64, to_be_bytes, from_be_bytes}
use Rattle.std.proofs.lemmas.Nat.{from_be_bytes-to_be_bytes_2, from_be_bytes-to_be_bytes_4, from_be_bytes-to_be_bytes_8}
use Rattle.std.specs.Prelude.{Option, Some, None}
use Rattle.path_text.specs.Path.{is_path}
use Rattle.path_text.specs.Label.{is_label}
use Rattle.path_text.specs.declared.kinds.Kinds.{Kinds}
use Rattle.copy_plan.specs.declared.file.PlannedFile.{PlannedFile}
use Rattle.copy_plan.specs.Inventory.{IsPlannable}
use Rattle.copy_plan.specs.Fields.{mark_code, moment_code, label_code, kinds_code, path_code, source_code, count_code, file_code, itself, IsNumber, IsText, IsPath, IsMark, IsMoment, IsLabel, IsChosen, IsChoice, IsCount, IsFile}

-- two values that keep the rule and begin the same bytes are the same, and so are the rests
pub record Exact {A : Type 0} (rule : A → Type 0) (code : A → List ℕ) : Type 0 where
  pub one : (a b : A) (r s : List ℕ) → rule a → rule b → code a ++ r ≡ code b ++ s → (a ≡ b) × (r ≡ s)

-- lists of one length that begin the same list are the same
pub same_front : (a b r s : List ℕ) → length a ≡ length b → a ++ r ≡ b ++ s → (a ≡ b) × (r ≡ s)
same_front [] [] r s long e = (refl, e)
same_front [] (y ∷ b) r s long e = absurd (omega arith)
same_front (x ∷ a) [] r s long e = absurd (omega arith)
same_front (x ∷ a) (y ∷ b) r s long e =
    let tails : a ++ r ≡ b ++ s = cc in
    let rest = same_front a b r s (omega arith) tails in
    let head : x ≡ y = cc in
    ((λ i. head i ∷ rest.0 i), rest.1)

-- numbers of 2, 4 and 8 bytes
two_exact : (n m : ℕ) (r s : List ℕ) → n < 2 ^ 16 → m < 2 ^ 16 → to_be_bytes w16 n ++ r ≡ to_be_bytes w16 m ++ s → (n ≡ m) × (r ≡ s)
two_exact n m r s low high e =
    let same = same_front (to_be_bytes w16 n) (to_be_bytes w16 m) r s refl e in
    (sym (from_be_bytes-to_be_bytes_2 n low) ∙ ap (from_be_bytes w16) same.0 ∙ from_be_bytes-to_be_bytes_2 m high, same.1)

four_exact : (n m : ℕ) (r s : List ℕ) → n < 2 ^ 32 → m < 2 ^ 32 → to_be_bytes w32 n ++ r ≡ to_be_bytes w32 m ++ s → (n ≡ m) × (r ≡ s)
four_exact n m r s low high e =
    let same = same_front (to_be_bytes w32 n) (to_be_bytes w32 m) r s refl e in
    (sym (from_be_bytes-to_be_bytes_4 n low) ∙ ap (from_be_bytes w32) same.0 ∙ from_be_bytes-to_be_bytes_4 m high, same.1)

eight_exact : (n m : ℕ) (r s : List ℕ) → n < 2 ^ 64 → m < 2 ^ 64 → to_be_bytes w64 n ++ r ≡ to_be_bytes w64 m ++ s → (n ≡ m) × (r ≡ s)
eight_exact n m r s low high e =
    let same = same_front (to_be_bytes w64 n) (to_be_bytes w64 m) r s refl e in
    (sym (from_be_bytes-to_be_bytes_8 n low) ∙ ap (from_be_bytes w64) same.0 ∙ from_be_bytes-to_be_bytes_8 m high, same.1)

pub two_bytes_exact : Exact (IsNumber 16) (to_be_bytes w16)
two_bytes_exact = record { one = λ a b r s x y e. two_exact a b r s x y e }

pub four_bytes_exact : Exact (IsNumber 32) (to_be_bytes w32)
four_bytes_exact = record { one = λ a b r s x y e. four_exact a b r s x y e }

pub eight_bytes_exact : Exact (IsNumber 64) (to_be_bytes w64)
eight_bytes_exact = record { one = λ a b r s x y e. eight_exact a b r s x y e }

pub text_exact : (long : ℕ) → Exact (IsText long) itself
text_exact long = record { one = λ a b r s x y e. same_front a b r s (x.long_is ∙ sym y.long_is) e }

other_mark : (r s : List ℕ) → mark_code true ++ r ≡ mark_code false ++ s → ⊥
other_mark r s e = let seventh : false ≡ true = ap (λ (l : List ℕ). nat_eq (get_or l 7 0) 50) e in absurd (cc)

marks : (a b : Bool) (r s : List ℕ) → mark_code a ++ r ≡ mark_code b ++ s → (a ≡ b) × (r ≡ s)
marks true true r s e = (refl, (same_front (mark_code true) (mark_code true) r s refl e).1)
marks false false r s e = (refl, (same_front (mark_code false) (mark_code false) r s refl e).1)
marks true false r s e = absurd (other_mark r s e)
marks false true r s e = absurd (other_mark s r (sym e))

pub mark_exact : Exact IsMark mark_code
mark_exact = record { one = λ a b r s x y e. marks a b r s e }

pub moment_exact : Exact IsMoment moment_code
unfolding moment_code
moment_exact = record { one = λ a b r s x y e. eight_exact a b r s (omega arith) (omega arith) e }

pub count_exact : Exact IsCount count_code
unfolding count_code
count_exact = record { one = λ a b r s x y e. four_exact a b r s (omega arith) (omega arith) e }

-- a label is shorter than its length byte can say
pub label_short : (text : List ℕ) → is_label text ≡ true → length text < 256
label_short text is = let short = label_bounds text is in omega arith

pub label_exact : Exact IsLabel label_code
unfolding label_code
label_exact = record {
  one = λ a b r s x y e.
      let long : length a ≡ length b = cc in
      let rest : a ++ r ≡ b ++ s = cc in
      same_front a b r s long rest;
}

-- the kinds that a byte tells
abbrev pub told_kinds : ℕ → Kinds
told_kinds n = record { md5 = n % 2 == 1; sha1 = n / 2 % 2 == 1; xxh = n / 4 == 1 }

pub kinds_byte : Kinds → ℕ
unfolding kinds_code
kinds_byte kinds = get_or (kinds_code kinds) 0 0

kinds_back : (a b c : Bool) → told_kinds (kinds_byte (record { md5 = a; sha1 = b; xxh = c })) ≡ record { md5 = a; sha1 = b; xxh = c }
unfolding kinds_code kinds_byte
kinds_back true true true = refl
kinds_back true true false = refl
kinds_back true false true = refl
kinds_back true false false = refl
kinds_back false true true = refl
kinds_back false true false = refl
kinds_back false false true = refl
kinds_back false false false = refl

pub kinds_exact : Exact IsChosen kinds_code
unfolding kinds_code kinds_byte
kinds_exact = record {
  one = λ a b r s x y e.
      let same : kinds_byte a ≡ kinds_byte b = ap (λ (l : List ℕ). get_or l 0 0) e in
      (sym (kinds_back a.md5 a.sha1 a.xxh) ∙ ap told_kinds same ∙ kinds_back b.md5 b.sha1 b.xxh, ap (drop 1) e);
}

paths : (a b r s : List ℕ) → length a < 2 ^ 16 → length b < 2 ^ 16 → path_code a ++ r ≡ path_code b ++ s → (a ≡ b) × (r ≡ s)
unfolding path_code
paths a b r s x y e =
    let long = two_exact (length a) (length b) (a ++ r) (b ++ s) x y (sym (append_assoc (to_be_bytes w16 (length a)) a r) ∙ e ∙ append_assoc (to_be_bytes w16 (length b)) b s) in
    same_front a b r s long.0 long.1

pub path_short : (text : List ℕ) → is_path text ≡ true → length text < 2 ^ 16
path_short text is = let short = path_bounds text is in omega arith

pub path_exact : Exact IsPath path_code
path_exact = record { one = λ a b r s x y e. paths a b r s (path_short a x) (path_short b y) e }

pub file_alone_exact : Exact IsFile file_code
unfolding file_code moment_code
file_alone_exact = record {
  one = λ a b r s x y e.
      let split : (f : PlannedFile) (t : List ℕ) → file_code f ++ t ≡ path_code f.path ++ (to_be_bytes w64 f.size ++ (to_be_bytes w64 f.modified ++ t)) = λ f t. append_assoc (path_code f.path) (to_be_bytes w64 f.size ++ to_be_bytes w64 f.modified) t ∙ ap (λ (l : List ℕ). path_code f.path ++ l) (append_assoc (to_be_bytes w64 f.size) (to_be_bytes w64 f.modified) t) in
      let path = paths a.path b.path _ _ (path_short a.path x.path) (path_short b.path y.path) (sym (split a r) ∙ e ∙ split b s) in
      let size = eight_exact a.size b.size _ _ x.sized y.sized path.1 in
      let date = eight_exact a.modified b.modified r s (let h = x.dated in omega arith) (let h = y.dated in omega arith) size.1 in
      ((λ i. record { path = path.0 i; size = size.0 i; modified = date.0 i }), date.1);
}

-- what an inventory may hold is a file
pub plannable_file : (f : PlannedFile) → IsPlannable f → IsFile f
plannable_file f is = let small = is.small in record { path = is.path; sized = omega arith; dated = is.dated }

pub file_exact : Exact IsPlannable file_code
file_exact = record { one = λ a b r s x y e. file_alone_exact.one a b r s (plannable_file a x) (plannable_file b y) e }

-- none and a path begin with other lengths
pub source_exact : (kinds : Kinds) → Exact (IsChoice kinds) source_code
unfolding source_code path_code
source_exact kinds = record {
  one = sources;
}
  where
    sources : (a b : Option (List ℕ)) (r s : List ℕ) → IsChoice kinds a → IsChoice kinds b → source_code a ++ r ≡ source_code b ++ s → (a ≡ b) × (r ≡ s)
    sources None None r s x y e = (refl, (two_exact 0 0 r s (omega arith) (omega arith) e).1)
    sources (Some a) (Some b) r s x y e = let one = paths a b r s (path_short a x.path) (path_short b y.path) e in (ap Some one.0, one.1)
    sources None (Some b) r s x y e = absurd (empty_path b y.path (two_exact 0 (length b) r (b ++ s) (omega arith) (path_short b y.path) (e ∙ append_assoc (to_be_bytes w16 (length b)) b s)).0)
    sources (Some a) None r s x y e = absurd (empty_path a x.path (two_exact 0 (length a) s (a ++ r) (omega arith) (path_short a x.path) (sym (sym (append_assoc (to_be_bytes w16 (length a)) a r) ∙ e))).0)
