-- What stands at the front of bytes, and what does not.
use Rattle.std.proofs.Common.{◌≡◌, ℕ, zero, suc, ◌+◌, ◌^◌, ◌<◌, ◌≤◌, Bool, true, false, List, [], ◌∷◌, ◌++◌, length, take, drop, get_or, refl, sym, ◌∙◌, ap, subst, arith, append_assoc, length-append}
use Rattle.std.specs.Prelude.{Option, Some, None, is_none, option_map, ◌&&◌, Ok, Err}
use Rattle.std.specs.Int.{w16, w32, w64, to_be_bytes, from_be_bytes}
use Rattle.std.proofs.lemmas.Nat.{be_bytes_2, be_bytes_4, be_bytes_8}
use Rattle.std.specs.Str.{is_utf8, IsUtf8}
use Rattle.path_text.specs.Path.{is_path, refusal_of, PathRead}
use Rattle.path_text.specs.declared.path.PathError.{PathError}
use Rattle.path_text.specs.declared.path.PathError.TheVariants.{Empty, TooLong, Absolute, BadChar, EmptyPart, DotPart, Memory}
use Rattle.path_text.specs.declared.label.NameError.{NameError}
use Rattle.path_text.specs.Label.{is_label, label_refusal_of, LabelRead}
use Rattle.path_text.specs.Moment.{last_moment}
use Rattle.path_text.specs.declared.kinds.Kinds.{Kinds}
use Rattle.path_text.specs.Kinds.{has_kind}
use Rattle.copy_plan.specs.Inventory.{most_files}
use Rattle.copy_plan.specs.Plan.{IsSourceList}
use Rattle.copy_plan.specs.declared.file.PlannedFile.{PlannedFile}
use Rattle.copy_plan.specs.declared.fields.FieldError.TheVariants.{Broken, Memory as Wanting}
use Rattle.copy_plan.specs.declared.fields.FieldError.{FieldError}
use Rattle.copy_plan.specs.Fields.{Begins, BeginsNone, Takes, Fails, unread, IsChoice, IsFile, is_plain, source_code, file_code, IsNumber, IsText, IsMoment, IsLabel, IsPath, IsChosen, IsCount, itself, moment_code, label_code, path_code, kinds_code, count_code}
use Rattle.copy_plan.proofs.Texts.{empty_path}
use Rattle.copy_plan.proofs.Exact.{Exact, same_front, two_bytes_exact, four_bytes_exact, eight_bytes_exact, text_exact, path_short, path_exact, told_kinds}
use Rattle.std.proofs.lemmas.Str.{is_utf8-from_IsUtf8, IsUtf8-from_is_utf8}
use Rattle.path_text.proofs.Labels.{is_label-name, name_utf8}

front_back : (n : ℕ) (bytes : List ℕ) → n ≤ length bytes → bytes ≡ take n bytes ++ drop n bytes
front_back zero bytes within = refl
front_back (suc n) [] within = absurd (omega arith)
front_back (suc n) (b ∷ bytes) within = ap (λ (l : List ℕ). b ∷ l) (front_back n bytes (omega arith))

-- bytes below n are bytes below n in a front of them
fits_front : (n : ℕ) (bytes : List ℕ) → ((i : ℕ) → get_or bytes i 0 < 256) → (i : ℕ) → get_or (take n bytes) i 0 < 256
fits_front zero bytes fits i = omega arith
fits_front (suc n) [] fits i = omega arith
fits_front (suc n) (b ∷ bytes) fits zero = fits 0
fits_front (suc n) (b ∷ bytes) fits (suc i) = fits_front n bytes (λ j. fits (suc j)) i

-- the two parts of bytes at a place
pub record Parts (n : ℕ) (bytes front rest : List ℕ) : Type 0 where
  pub whole : bytes ≡ front ++ rest
  pub long : length front ≡ n
  pub fits : ((i : ℕ) → get_or bytes i 0 < 256) → (i : ℕ) → get_or front i 0 < 256

pub parts_at : (n : ℕ) (bytes front rest : List ℕ) → front ≡ take n bytes → rest ≡ drop n bytes → length rest + n ≡ length bytes → Parts n bytes front rest
parts_at n bytes front rest f r long =
    let within : n ≤ length bytes = omega arith in
    let whole : bytes ≡ front ++ rest = front_back n bytes within ∙ (λ i. sym f i ++ sym r i) in
    record {
      whole = whole;
      long = omega (arith, ap length whole, length-append front rest, long);
      fits = λ fits i. subst (λ (l : List ℕ). get_or l i 0 < 256) (sym f) (fits_front n bytes fits i);
    }

pub two_begins : (bytes front rest : List ℕ) (n : ℕ) → Parts 2 bytes front rest → ((i : ℕ) → get_or bytes i 0 < 256) → n ≡ from_be_bytes w16 front → n < 2 ^ 16 → Begins (IsNumber 16) (to_be_bytes w16) bytes n rest
two_begins bytes front rest n parts fits is small = record { kept = small; is = parts.whole ∙ ap (λ (l : List ℕ). l ++ rest) (sym (be_bytes_2 front n parts.long (parts.fits fits) is)) }

pub four_begins : (bytes front rest : List ℕ) (n : ℕ) → Parts 4 bytes front rest → ((i : ℕ) → get_or bytes i 0 < 256) → n ≡ from_be_bytes w32 front → n < 2 ^ 32 → Begins (IsNumber 32) (to_be_bytes w32) bytes n rest
four_begins bytes front rest n parts fits is small = record { kept = small; is = parts.whole ∙ ap (λ (l : List ℕ). l ++ rest) (sym (be_bytes_4 front n parts.long (parts.fits fits) is)) }

pub eight_begins : (bytes front rest : List ℕ) (n : ℕ) → Parts 8 bytes front rest → ((i : ℕ) → get_or bytes i 0 < 256) → n ≡ from_be_bytes w64 front → n < 2 ^ 64 → Begins (IsNumber 64) (to_be_bytes w64) bytes n rest
eight_begins bytes front rest n parts fits is small = record { kept = small; is = parts.whole ∙ ap (λ (l : List ℕ). l ++ rest) (sym (be_bytes_8 front n parts.long (parts.fits fits) is)) }

-- bytes that are fewer than every code hold none
pub too_short : {A : Type 0} (rule : A → Type 0) (code : A → List ℕ) (n : ℕ) (bytes : List ℕ) → length bytes < n → ((a : A) → rule a → n ≤ length (code a)) → BeginsNone rule code bytes
too_short rule code n bytes short long a rest begins =
    let e = ap length begins.is in
    let k = long a begins.kept in
    absurd (omega (arith, e, k, length-append (code a) rest))

-- nothing was taken
pub takes_none : {A V : Type 0} (rule : A → Type 0) (code : A → List ℕ) (bytes : List ℕ) (view : V → A × List ℕ) (o : Option V) → o ≡ None → BeginsNone rule code bytes → Takes rule code bytes (option_map view o)
takes_none rule code bytes view o is none = subst (λ (p : Option _). Takes rule code bytes (option_map view p)) (sym is) none

-- where no value keeps the rule, none keeps a narrower one
pub none_of : {A : Type 0} {rule narrow : A → Type 0} {code : A → List ℕ} (bytes : List ℕ) → ((a : A) → narrow a → rule a) → BeginsNone rule code bytes → BeginsNone narrow code bytes
none_of bytes so none a rest begins = none a rest (record { kept = so a begins.kept; is = begins.is })

-- where one stands that does not keep a narrower rule, none stands that does
pub other_of : {A : Type 0} {rule narrow : A → Type 0} {code : A → List ℕ} → Exact rule code → (bytes : List ℕ) (a : A) (rest : List ℕ) → ((b : A) → narrow b → rule b) → Begins rule code bytes a rest → (narrow a → ⊥) → BeginsNone narrow code bytes
other_of {A} {rule} {narrow} {code} exact bytes a rest so begins not b more other =
    let same = exact.one b a more rest (so b other.kept) begins.kept (sym other.is ∙ begins.is) in
    not (subst narrow same.0 other.kept)

moment_number : (t : ℕ) → IsMoment t → IsNumber 64 t
moment_number t h = omega arith

pub moment_begins : (bytes : List ℕ) (n t : ℕ) (rest : List ℕ) → Begins (IsNumber 64) (to_be_bytes w64) bytes n rest → n ≤ last_moment → t ≡ n → Begins IsMoment moment_code bytes t rest
unfolding moment_code
moment_begins bytes n t rest begins small is = record { kept = subst (λ (k : ℕ). k ≤ last_moment) (sym is) small; is = begins.is ∙ ap (λ (k : ℕ). to_be_bytes w64 k ++ rest) (sym is) }

pub moment_none : (bytes : List ℕ) → BeginsNone (IsNumber 64) (to_be_bytes w64) bytes → BeginsNone IsMoment moment_code bytes
unfolding moment_code
moment_none bytes none = none_of bytes moment_number none

pub moment_other : (bytes : List ℕ) (n : ℕ) (rest : List ℕ) → Begins (IsNumber 64) (to_be_bytes w64) bytes n rest → (n ≤ last_moment → ⊥) → BeginsNone IsMoment moment_code bytes
unfolding moment_code
moment_other bytes n rest begins not = other_of eight_bytes_exact bytes n rest moment_number begins not

count_number : (n : ℕ) → IsCount n → IsNumber 32 n
count_number n h = omega arith

pub count_begins : (bytes : List ℕ) (n : ℕ) (rest : List ℕ) → Begins (IsNumber 32) (to_be_bytes w32) bytes n rest → 1 ≤ n → n ≤ most_files → Begins IsCount count_code bytes n rest
unfolding count_code
count_begins bytes n rest begins some few = record { kept = (some, few); is = begins.is }

pub count_none : (bytes : List ℕ) → BeginsNone (IsNumber 32) (to_be_bytes w32) bytes → BeginsNone IsCount count_code bytes
unfolding count_code
count_none bytes none = none_of bytes count_number none

pub count_other : (bytes : List ℕ) (n : ℕ) (rest : List ℕ) → Begins (IsNumber 32) (to_be_bytes w32) bytes n rest → (IsCount n → ⊥) → BeginsNone IsCount count_code bytes
unfolding count_code
count_other bytes n rest begins not = other_of four_bytes_exact bytes n rest count_number begins not

label_text : (text : List ℕ) → IsLabel text → IsText (length text) text
label_text text label = record { utf8 = is_utf8-from_IsUtf8 text (name_utf8 text (is_label-name text label).0); long_is = refl }

label_stands : (bytes rest text more : List ℕ) (long : ℕ) → bytes ≡ long ∷ rest → Begins (IsText long) itself rest text more → is_label text ≡ true → Begins IsLabel label_code bytes text more
unfolding label_code
label_stands bytes rest text more long is begins label = record {
  kept = label;
  is = is ∙ (λ i. sym begins.kept.long_is i ∷ begins.is i);
}

pub label_begins : (bytes rest text more label : List ℕ) (long : ℕ) → bytes ≡ long ∷ rest → Begins (IsText long) itself rest text more → LabelRead text (Ok label) → Begins IsLabel label_code bytes label more
label_begins bytes rest text more label long is begins read =
    subst (λ (l : List ℕ). Begins IsLabel label_code bytes l more) (sym read.0) (label_stands bytes rest text more long is begins (ap (λ (o : Option NameError). is_none o) read.1))

pub label_empty : (bytes : List ℕ) → length bytes ≡ 0 → BeginsNone IsLabel label_code bytes
unfolding label_code
label_empty bytes empty a rest begins = let e = ap length begins.is in absurd (omega (arith, e, empty))

pub label_none : (bytes rest : List ℕ) (long : ℕ) → bytes ≡ long ∷ rest → BeginsNone (IsText long) itself rest → BeginsNone IsLabel label_code bytes
unfolding label_code
label_none bytes rest long is none a more begins =
    let both : long ∷ rest ≡ length a ∷ (a ++ more) = sym is ∙ begins.is in
    let first : length a ≡ long = cc in
    let tail : rest ≡ a ++ more = cc in
    none a more (record { kept = subst (λ (n : ℕ). IsText n a) first (label_text a begins.kept); is = tail })

pub label_other : (bytes rest text more : List ℕ) (long : ℕ) → bytes ≡ long ∷ rest → Begins (IsText long) itself rest text more → (is_label text ≡ true → ⊥) → BeginsNone IsLabel label_code bytes
unfolding label_code
label_other bytes rest text more long is begins not a after other =
    let both : long ∷ rest ≡ length a ∷ (a ++ after) = sym is ∙ other.is in
    let first : length a ≡ long = cc in
    let tail : rest ≡ a ++ after = cc in
    let same = (text_exact long).one a text after more (subst (λ (n : ℕ). IsText n a) first (label_text a other.kept)) begins.kept (sym tail ∙ begins.is) in
    not (subst (λ (t : List ℕ). is_label t ≡ true) same.0 other.kept)

-- a path behind its length
path_text : (text : List ℕ) → IsPath text → IsText (length text) text
unfolding is_path
path_text text is = record { utf8 = left_true (is_utf8 text) (is_none (refusal_of text)) is; long_is = refl }
  where
    left_true : (a b : Bool) → (a && b) ≡ true → a ≡ true
    left_true true b is = refl
    left_true false b is = absurd (cc)

-- a text is valid where nothing refuses it
path_read : (text : List ℕ) → is_utf8 text ≡ true → refusal_of text ≡ None → is_path text ≡ true
unfolding is_path
path_read text utf8 none = ap (λ (o : Option PathError). is_utf8 text && is_none o) none ∙ ap (λ (b : Bool). b && true) utf8

path_stands : (bytes rest text more : List ℕ) (long : ℕ) → Begins (IsNumber 16) (to_be_bytes w16) bytes long rest → Begins (IsText long) itself rest text more → is_path text ≡ true → Begins IsPath path_code bytes text more
unfolding path_code
path_stands bytes rest text more long number begins path = record {
  kept = path;
  is = number.is ∙ (λ i. to_be_bytes w16 (sym begins.kept.long_is i) ++ begins.is i) ∙ sym (append_assoc (to_be_bytes w16 (length text)) text more);
}

pub path_begins : (bytes rest text more path : List ℕ) (long : ℕ) → Begins (IsNumber 16) (to_be_bytes w16) bytes long rest → Begins (IsText long) itself rest text more → PathRead text (Ok path) → Begins IsPath path_code bytes path more
path_begins bytes rest text more path long number begins read =
    subst (λ (l : List ℕ). Begins IsPath path_code bytes l more) (sym read.0) (path_stands bytes rest text more long number begins (path_read text begins.kept.utf8 read.1))

path_behind : (a more bytes : List ℕ) → bytes ≡ (to_be_bytes w16 (length a) ++ a) ++ more → IsPath a → Begins (IsNumber 16) (to_be_bytes w16) bytes (length a) (a ++ more)
path_behind a more bytes is path = record { kept = path_short a path; is = is ∙ append_assoc (to_be_bytes w16 (length a)) a more }

pub path_shorter : (bytes : List ℕ) → BeginsNone (IsNumber 16) (to_be_bytes w16) bytes → BeginsNone IsPath path_code bytes
unfolding path_code
path_shorter bytes none a more begins = none (length a) (a ++ more) (path_behind a more bytes begins.is begins.kept)

pub path_none : (bytes rest : List ℕ) (long : ℕ) → Begins (IsNumber 16) (to_be_bytes w16) bytes long rest → BeginsNone (IsText long) itself rest → BeginsNone IsPath path_code bytes
unfolding path_code
path_none bytes rest long number none a more begins =
    let behind = path_behind a more bytes begins.is begins.kept in
    let same = two_bytes_exact.one (length a) long (a ++ more) rest behind.kept number.kept (sym behind.is ∙ number.is) in
    none a more (record { kept = subst (λ (n : ℕ). IsText n a) same.0 (path_text a begins.kept); is = sym same.1 })

pub path_other : (bytes rest text more : List ℕ) (long : ℕ) → Begins (IsNumber 16) (to_be_bytes w16) bytes long rest → Begins (IsText long) itself rest text more → (is_path text ≡ true → ⊥) → BeginsNone IsPath path_code bytes
unfolding path_code
path_other bytes rest text more long number begins not a after other =
    let behind = path_behind a after bytes other.is other.kept in
    let same = two_bytes_exact.one (length a) long (a ++ after) rest behind.kept number.kept (sym behind.is ∙ number.is) in
    let one = (text_exact long).one a text after more (subst (λ (n : ℕ). IsText n a) same.0 (path_text a other.kept)) begins.kept (same.1 ∙ begins.is) in
    not (subst (λ (t : List ℕ). is_path t ≡ true) one.0 other.kept)

-- a text that is refused is no path
refused_path : (text : List ℕ) (e : PathError) → refusal_of text ≡ Some e → is_path text ≡ true → ⊥
unfolding is_path
refused_path text e refused is = absurd (cc (ap (λ (o : Option PathError). is_utf8 text && is_none o) refused, false_right (is_utf8 text)))
  where
    false_right : (b : Bool) → (b && false) ≡ false
    false_right true = refl
    false_right false = refl

path_unread : (bytes rest text more : List ℕ) (long : ℕ) → Begins (IsNumber 16) (to_be_bytes w16) bytes long rest → Begins (IsText long) itself rest text more → (e : PathError) → PathRead text (Err e) → Fails IsPath path_code bytes (unread e)
path_unread bytes rest text more long number begins Memory read = tt
path_unread bytes rest text more long number begins Empty read = path_other bytes rest text more long number begins (refused_path text Empty read)
path_unread bytes rest text more long number begins (TooLong n) read = path_other bytes rest text more long number begins (refused_path text (TooLong n) read)
path_unread bytes rest text more long number begins Absolute read = path_other bytes rest text more long number begins (refused_path text Absolute read)
path_unread bytes rest text more long number begins (BadChar n) read = path_other bytes rest text more long number begins (refused_path text (BadChar n) read)
path_unread bytes rest text more long number begins (EmptyPart n) read = path_other bytes rest text more long number begins (refused_path text (EmptyPart n) read)
path_unread bytes rest text more long number begins (DotPart n) read = path_other bytes rest text more long number begins (refused_path text (DotPart n) read)

pub path_failed : (bytes rest text more : List ℕ) (long : ℕ) → Begins (IsNumber 16) (to_be_bytes w16) bytes long rest → Begins (IsText long) itself rest text more → (e : PathError) → PathRead text (Err e) → (f : FieldError) → f ≡ unread e → Fails IsPath path_code bytes f
path_failed bytes rest text more long number begins e read f is = subst (λ (g : FieldError). Fails IsPath path_code bytes g) (sym is) (path_unread bytes rest text more long number begins e read)

pub label_refused : (text : List ℕ) (e : NameError) → label_refusal_of text ≡ Some e → is_label text ≡ true → ⊥
label_refused text e refused is = absurd (cc (ap (λ (o : Option NameError). is_none o) refused))

pub text_begins : (bytes front rest text : List ℕ) (long : ℕ) → Parts long bytes front rest → text ≡ front → IsUtf8 front → Begins (IsText long) itself bytes text rest
text_begins bytes front rest text long parts is utf8 = record {
  kept = record { utf8 = is_utf8-from_IsUtf8 text (subst IsUtf8 (sym is) utf8); long_is = ap length is ∙ parts.long };
  is = parts.whole ∙ ap (λ (l : List ℕ). l ++ rest) (sym is);
}

pub text_none : (bytes front rest : List ℕ) (long : ℕ) → Parts long bytes front rest → (IsUtf8 front → ⊥) → BeginsNone (IsText long) itself bytes
text_none bytes front rest long parts not a more begins =
    let same = same_front a front more rest (begins.kept.long_is ∙ sym parts.long) (sym begins.is ∙ parts.whole) in
    not (subst IsUtf8 same.0 (IsUtf8-from_is_utf8 a begins.kept.utf8))

pub text_short : (bytes : List ℕ) (long : ℕ) → length bytes < long → BeginsNone (IsText long) itself bytes
text_short bytes long short a more begins =
    let e = ap length begins.is in
    let k = begins.kept.long_is in
    absurd (omega (arith, e, k, length-append a more))

-- the kinds that a byte tells
kinds_told : (n : ℕ) → 1 ≤ n → n ≤ 7 → (kinds_code (told_kinds n) ≡ n ∷ []) × IsChosen (told_kinds n)
unfolding kinds_code
kinds_told zero low high = absurd (omega arith)
kinds_told (suc zero) low high = (refl, refl)
kinds_told (suc (suc zero)) low high = (refl, refl)
kinds_told (suc (suc (suc zero))) low high = (refl, refl)
kinds_told (suc (suc (suc (suc zero)))) low high = (refl, refl)
kinds_told (suc (suc (suc (suc (suc zero))))) low high = (refl, refl)
kinds_told (suc (suc (suc (suc (suc (suc zero)))))) low high = (refl, refl)
kinds_told (suc (suc (suc (suc (suc (suc (suc zero))))))) low high = (refl, refl)
kinds_told (suc (suc (suc (suc (suc (suc (suc (suc n)))))))) low high = absurd (omega arith)

pub kinds_begins : (bytes rest : List ℕ) (n : ℕ) → bytes ≡ n ∷ rest → (n ≡ 0 → ⊥) → n ≤ 7 → Begins IsChosen kinds_code bytes (told_kinds n) rest
kinds_begins bytes rest n is some few =
    let told = kinds_told n (omega arith) few in
    record { kept = told.1; is = is ∙ ap (λ (l : List ℕ). l ++ rest) (sym told.0) }

-- the byte of some kinds
byte_of : (a b c : Bool) → has_kind (record { md5 = a; sha1 = b; xxh = c }) ≡ true → (n : ℕ) × (kinds_code (record { md5 = a; sha1 = b; xxh = c }) ≡ n ∷ []) × (1 ≤ n) × (n ≤ 7)
unfolding kinds_code
byte_of true true true is = (7, refl, omega arith, omega arith)
byte_of true true false is = (3, refl, omega arith, omega arith)
byte_of true false true is = (5, refl, omega arith, omega arith)
byte_of true false false is = (1, refl, omega arith, omega arith)
byte_of false true true is = (6, refl, omega arith, omega arith)
byte_of false true false is = (2, refl, omega arith, omega arith)
byte_of false false true is = (4, refl, omega arith, omega arith)
byte_of false false false is = absurd (cc)

pub kinds_empty : (bytes : List ℕ) → length bytes ≡ 0 → BeginsNone IsChosen kinds_code bytes
kinds_empty bytes empty a rest begins =
    let byte = byte_of a.md5 a.sha1 a.xxh begins.kept in
    let e = ap length (begins.is ∙ ap (λ (l : List ℕ). l ++ rest) byte.1) in
    absurd (omega (arith, e, empty))

pub kinds_other : (bytes rest : List ℕ) (n : ℕ) → bytes ≡ n ∷ rest → ((1 ≤ n) × (n ≤ 7) → ⊥) → BeginsNone IsChosen kinds_code bytes
kinds_other bytes rest n is not a more begins =
    let byte = byte_of a.md5 a.sha1 a.xxh begins.kept in
    let e : n ∷ rest ≡ byte.0 ∷ more = sym is ∙ begins.is ∙ ap (λ (l : List ℕ). l ++ more) byte.1 in
    let same : byte.0 ≡ n = cc in
    not (subst (λ (k : ℕ). (1 ≤ k) × (k ≤ 7)) same (byte.2, byte.3))

-- where no path stands, no source list stands
list_path : (text : List ℕ) → IsSourceList text → IsPath text
list_path text is = is.path

pub list_failed : (bytes : List ℕ) (e : FieldError) → Fails IsPath path_code bytes e → Fails IsSourceList path_code bytes e
list_failed bytes Broken none = none_of bytes list_path none
list_failed bytes Wanting none = tt

pub list_other : (bytes path rest : List ℕ) → Begins IsPath path_code bytes path rest → (IsSourceList path → ⊥) → BeginsNone IsSourceList path_code bytes
list_other bytes path rest begins not = other_of path_exact bytes path rest list_path begins not

-- a choice begins with a length
choice_long : (kinds : Kinds) (a : Option (List ℕ)) (bytes rest : List ℕ) → Begins (IsChoice kinds) source_code bytes a rest → (n : ℕ) × (more : List ℕ) × Begins (IsNumber 16) (to_be_bytes w16) bytes n more
unfolding source_code path_code
choice_long kinds None bytes rest begins = (0, rest, record { kept = omega arith; is = begins.is })
choice_long kinds (Some a) bytes rest begins = (length a, a ++ rest, path_behind a rest bytes begins.is begins.kept.path)

pub source_short : (kinds : Kinds) (bytes : List ℕ) → BeginsNone (IsNumber 16) (to_be_bytes w16) bytes → BeginsNone (IsChoice kinds) source_code bytes
source_short kinds bytes none a rest begins = let long = choice_long kinds a bytes rest begins in none long.0 long.1 long.2

zero_path : (a rest bytes more : List ℕ) → Begins (IsNumber 16) (to_be_bytes w16) bytes 0 rest → bytes ≡ (to_be_bytes w16 (length a) ++ a) ++ more → is_path a ≡ true → ⊥
zero_path a rest bytes more number is path =
    let behind = path_behind a more bytes is path in
    let same = two_bytes_exact.one 0 (length a) rest (a ++ more) number.kept behind.kept (sym number.is ∙ behind.is) in
    empty_path a path same.0

pub zero_long : {bytes rest : List ℕ} {long : ℕ} → long ≡ 0 → Begins (IsNumber 16) (to_be_bytes w16) bytes long rest → Begins (IsNumber 16) (to_be_bytes w16) bytes 0 rest
zero_long {bytes} {rest} {long} is begins = subst (λ (n : ℕ). Begins (IsNumber 16) (to_be_bytes w16) bytes n rest) is begins

pub source_plain : (kinds : Kinds) (bytes rest : List ℕ) → Begins (IsNumber 16) (to_be_bytes w16) bytes 0 rest → is_plain kinds None ≡ true → BeginsNone (IsChoice kinds) source_code bytes
unfolding source_code path_code
source_plain kinds bytes rest number plain None more begins = absurd (let not : is_plain kinds None ≡ false = begins.kept in cc)
source_plain kinds bytes rest number plain (Some a) more begins = zero_path a rest bytes more number begins.is begins.kept.path

pub source_none : (kinds : Kinds) (bytes rest : List ℕ) → Begins (IsNumber 16) (to_be_bytes w16) bytes 0 rest → is_plain kinds None ≡ false → Begins (IsChoice kinds) source_code bytes None rest
unfolding source_code
source_none kinds bytes rest number plain = record { kept = plain; is = number.is }

pub source_some : (kinds : Kinds) (bytes path rest : List ℕ) → Begins IsSourceList path_code bytes path rest → Begins (IsChoice kinds) source_code bytes (Some path) rest
unfolding source_code
source_some kinds bytes path rest begins = record { kept = begins.kept; is = begins.is }

pub source_failed : (kinds : Kinds) (bytes rest : List ℕ) (long : ℕ) → Begins (IsNumber 16) (to_be_bytes w16) bytes long rest → (long ≡ 0 → ⊥) → (e : FieldError) → Fails IsSourceList path_code bytes e → Fails (IsChoice kinds) source_code bytes e
unfolding source_code
source_failed kinds bytes rest long number some Wanting none = tt
source_failed kinds bytes rest long number some Broken none = λ a more begins. broken a more begins
  where
    broken : (a : Option (List ℕ)) (more : List ℕ) → Begins (IsChoice kinds) source_code bytes a more → ⊥
    broken None more begins = some (two_bytes_exact.one long 0 rest more number.kept (omega arith) (sym number.is ∙ begins.is)).0
    broken (Some a) more begins = none a more (record { kept = begins.kept; is = begins.is })

-- a file stands behind its path and its size
file_split : (f : PlannedFile) (t : List ℕ) → file_code f ++ t ≡ path_code f.path ++ (to_be_bytes w64 f.size ++ (moment_code f.modified ++ t))
unfolding file_code
file_split f t = append_assoc (path_code f.path) (to_be_bytes w64 f.size ++ moment_code f.modified) t ∙ ap (λ (l : List ℕ). path_code f.path ++ l) (append_assoc (to_be_bytes w64 f.size) (moment_code f.modified) t)

pub file_begins : (bytes rest more last path : List ℕ) (size modified : ℕ) → Begins IsPath path_code bytes path rest → Begins (IsNumber 64) (to_be_bytes w64) rest size more → Begins IsMoment moment_code more modified last → Begins IsFile file_code bytes (record { path = path; size = size; modified = modified }) last
file_begins bytes rest more last path size modified a b d = record {
  kept = record { path = a.kept; sized = b.kept; dated = d.kept };
  is = a.is ∙ ap (λ (l : List ℕ). path_code path ++ l) (b.is ∙ ap (λ (l : List ℕ). to_be_bytes w64 size ++ l) d.is) ∙ sym (file_split (record { path = path; size = size; modified = modified }) last);
}

file_path : (f : PlannedFile) (bytes rest : List ℕ) → Begins IsFile file_code bytes f rest → Begins IsPath path_code bytes f.path (to_be_bytes w64 f.size ++ (moment_code f.modified ++ rest))
file_path f bytes rest begins = record { kept = begins.kept.path; is = begins.is ∙ file_split f rest }

pub file_failed : (bytes : List ℕ) (e : FieldError) → Fails IsPath path_code bytes e → Fails IsFile file_code bytes e
file_failed bytes Wanting none = tt
file_failed bytes Broken none = λ f rest begins. none f.path (to_be_bytes w64 f.size ++ (moment_code f.modified ++ rest)) (file_path f bytes rest begins)

pub file_unsized : (bytes rest path : List ℕ) → Begins IsPath path_code bytes path rest → BeginsNone (IsNumber 64) (to_be_bytes w64) rest → BeginsNone IsFile file_code bytes
file_unsized bytes rest path a none f more begins =
    let other = file_path f bytes more begins in
    let same = path_exact.one f.path path (to_be_bytes w64 f.size ++ (moment_code f.modified ++ more)) rest other.kept a.kept (sym other.is ∙ a.is) in
    none f.size (moment_code f.modified ++ more) (record { kept = begins.kept.sized; is = sym same.1 })

pub file_undated : (bytes rest after path : List ℕ) (size : ℕ) → Begins IsPath path_code bytes path rest → Begins (IsNumber 64) (to_be_bytes w64) rest size after → BeginsNone IsMoment moment_code after → BeginsNone IsFile file_code bytes
file_undated bytes rest after path size a b none f more begins =
    let other = file_path f bytes more begins in
    let same = path_exact.one f.path path (to_be_bytes w64 f.size ++ (moment_code f.modified ++ more)) rest other.kept a.kept (sym other.is ∙ a.is) in
    let sized = eight_bytes_exact.one f.size size (moment_code f.modified ++ more) after begins.kept.sized b.kept (same.1 ∙ b.is) in
    none f.modified more (record { kept = begins.kept.dated; is = sym sized.1 })
