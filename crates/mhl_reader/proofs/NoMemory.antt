-- Want of memory is no fault of a document.
use Rattle.std.proofs.Common.{◌≡◌, inl, inr, ℕ, Bool, true, false, cond, List, [], ◌∷◌, Option, Some, None, Result, Ok, Err, sym, ◌∙◌}
use Rattle.markup.specs.declared.text.TextError.{TextError}
use Rattle.markup.specs.declared.text.TextError.TheVariants as texts
use Rattle.markup.specs.declared.token.MarkupError.{MarkupError}
use Rattle.markup.specs.declared.token.MarkupError.TheVariants as pieces
use Rattle.markup.specs.Mark.{Named, Mark, start, stop, aside, text, Placed}
use Rattle.mhl_writer.specs.declared.values.HashEntry.{HashEntry}
use Rattle.mhl_reader.specs.declared.error.ReadError.{ReadError}
use Rattle.mhl_reader.specs.declared.error.ReadError.TheVariants.{Malformed, Version, NoFile, Twice, BadPath, TooMany, Memory}
use Rattle.mhl_reader.specs.declared.found.HashLeaf.{HashLeaf}
use Rattle.mhl_reader.specs.declared.found.HashLeaf.TheVariants.{File, Size, Modified, Hashed, Md5, Sha1, Xxh}
use Rattle.mhl_reader.specs.declared.found.HashLeaves.{HashLeaves}
use Rattle.mhl_reader.specs.declared.found.CreatorLeaf.{CreatorLeaf}
use Rattle.mhl_reader.specs.declared.found.CreatorLeaves.{CreatorLeaves}
use Rattle.mhl_reader.specs.Leaves.{with_leaf, hash_leaf, has_leaf, entry_of, new_creator_leaf}
use Rattle.mhl_reader.specs.Grammar.{Found, ListElement, a_hash, first_creator, another, list_element}
use Rattle.mhl_reader.specs.Faults.{Base, before, in_list, in_hash, in_hash_leaf, in_creator, in_creator_leaf, after, State, provided, filled, entered_list, entered_hash, entered_creator, entered, leaf_fault, left_hash_leaf, left_hash, closed, read, passed, step_skipping, step, steps, ended_base, ended_skipping, ◌>>=◌}
use Rattle.mhl_reader.specs.Reading.{text_fault, markup_fault, FaultAt, FirstFault}
use Rattle.mhl_reader.proofs.Steps.{steps_none, steps_more}

abbrev Never : {A : Type 0} → Result A ReadError → Type 0
Never r = r ≡ Err Memory → ⊥

ok_never : {A : Type 0} (x : A) → Never (Ok x)
ok_never x e = cc

-- a fault that is not want of memory
abbrev IsOther : ReadError → Type 0
IsOther fault = fault ≡ Memory → ⊥

same_err : {A : Type 0} (a b : ReadError) → ◌≡◌ {A = Result A ReadError} (Err a) (Err b) → a ≡ b
same_err {A} a b e = cc

err_never : {A : Type 0} (fault : ReadError) → IsOther fault → Never {A = A} (Err fault)
err_never {A} fault other = λ e. other (same_err {A = A} fault Memory e)

malformed : (place : ℕ) → IsOther (Malformed place)
malformed place e = cc

provided_never : (b : Bool) (fault : ReadError) (r : Result State ReadError) → IsOther fault → Never r → Never (provided b fault r)
provided_never true fault r other h = h
provided_never false fault r other h = err_never fault other

unless_never : (b : Bool) (fault : ReadError) (r : Result State ReadError) → IsOther fault → Never r → Never (cond b (Err fault) r)
unless_never true fault r other h = err_never fault other
unless_never false fault r other h = h

list_never : (kind : ListElement) (s : State) (place : ℕ) (name : List ℕ) → Never (entered_list kind s place name)
list_never a_hash s place name = provided_never _ (TooMany place) _ (λ e. cc) (ok_never _)
list_never first_creator s place name = ok_never _
list_never another s place name = ok_never _

hash_never : (leaf : Option HashLeaf) (s : State) (hash : ℕ) (h : HashLeaves) (place : ℕ) (name : List ℕ) → Never (entered_hash leaf s hash h place name)
hash_never (Some leaf) s hash h place name = unless_never (has_leaf leaf h) (Malformed place) _ (malformed place) (ok_never _)
hash_never None s hash h place name = ok_never _

creator_never : (leaf : Option CreatorLeaf) (s : State) (c : CreatorLeaves) (name : List ℕ) → Never (entered_creator leaf s c name)
creator_never (Some leaf) s c name = ok_never _
creator_never None s c name = ok_never _

entered_never : (base : Base) (s : State) (place : ℕ) (name : List ℕ) (attributes : List Named) → Never (entered base s place name attributes)
entered_never before s place name attributes = provided_never _ (Malformed place) _ (malformed place) (provided_never _ Version _ (λ e. cc) (ok_never _))
entered_never in_list s place name attributes = list_never (list_element s.found name) s place name
entered_never (in_hash hash h) s place name attributes = hash_never (hash_leaf name) s hash h place name
entered_never (in_hash_leaf hash h leaf at t) s place name attributes = err_never (Malformed place) (malformed place)
entered_never (in_creator c) s place name attributes = creator_never (new_creator_leaf c name) s c name
entered_never (in_creator_leaf c leaf t) s place name attributes = err_never (Malformed place) (malformed place)
entered_never after s place name attributes = err_never (Malformed place) (malformed place)

path_other : (b : Bool) (place : ℕ) → IsOther (cond b (Twice place) (BadPath place))
path_other true place e = cc
path_other false place e = cc

leaf_other : (leaf : HashLeaf) (place : ℕ) (t : List ℕ) → IsOther (leaf_fault leaf place t)
leaf_other File place t = path_other _ place
leaf_other Size place t = λ e. cc
leaf_other Modified place t = λ e. cc
leaf_other Hashed place t = λ e. cc
leaf_other Md5 place t = λ e. cc
leaf_other Sha1 place t = λ e. cc
leaf_other Xxh place t = λ e. cc

left_leaf_never : (next : Option HashLeaves) (s : State) (hash : ℕ) (leaf : HashLeaf) (at : ℕ) (t : List ℕ) → Never (left_hash_leaf next s hash leaf at t)
left_leaf_never (Some next) s hash leaf at t = ok_never _
left_leaf_never None s hash leaf at t = err_never (leaf_fault leaf at t) (leaf_other leaf at t)

left_hash_never : (e : Option HashEntry) (s : State) (hash : ℕ) → Never (left_hash e s hash)
left_hash_never (Some e) s hash = ok_never _
left_hash_never None s hash = err_never (NoFile hash) (λ e. cc)

closed_never : (base : Base) (s : State) → Never (closed base s)
closed_never before s = ok_never _
closed_never in_list s = ok_never _
closed_never (in_hash hash h) s = left_hash_never (entry_of h) s hash
closed_never (in_hash_leaf hash h leaf at t) s = left_leaf_never (with_leaf s.found.entries leaf t h) s hash leaf at t
closed_never (in_creator c) s = ok_never _
closed_never (in_creator_leaf c leaf t) s = ok_never _
closed_never after s = ok_never _

filled_never : (s : State) (place : ℕ) (raw : Bool) (bytes : List ℕ) → Never (filled s place raw bytes)
filled_never s place raw bytes = provided_never _ (Malformed place) (Ok s) (malformed place) (ok_never s)

read_never : (base : Base) (s : State) (place : ℕ) (raw : Bool) (bytes : List ℕ) → Never (read base s place raw bytes)
read_never (in_hash_leaf hash h leaf at t) s place raw bytes = ok_never _
read_never (in_creator_leaf c leaf t) s place raw bytes = ok_never _
read_never before s place raw bytes = filled_never s place raw bytes
read_never in_list s place raw bytes = filled_never s place raw bytes
read_never (in_hash hash h) s place raw bytes = filled_never s place raw bytes
read_never (in_creator c) s place raw bytes = filled_never s place raw bytes
read_never after s place raw bytes = filled_never s place raw bytes

passed_never : (base : Base) (s : State) (place : ℕ) → Never (passed base s place)
passed_never (in_hash_leaf hash h leaf at t) s place = err_never (Malformed place) (malformed place)
passed_never (in_creator_leaf c leaf t) s place = err_never (Malformed place) (malformed place)
passed_never before s place = ok_never s
passed_never in_list s place = ok_never s
passed_never (in_hash hash h) s place = ok_never s
passed_never (in_creator c) s place = ok_never s
passed_never after s place = ok_never s

step_never : (names : List (List ℕ)) (s : State) (place : ℕ) (m : Mark) → Never (step_skipping names s place m)
step_never [] s place (start name attributes) = entered_never s.base s place name attributes
step_never (n ∷ names) s place (start name attributes) = provided_never _ (Malformed place) _ (malformed place) (ok_never _)
step_never [] s place (stop name) = provided_never _ (Malformed place) _ (malformed place) (closed_never s.base s)
step_never (n ∷ names) s place (stop name) = provided_never _ (Malformed place) _ (malformed place) (ok_never _)
step_never [] s place (text raw bytes) = read_never s.base s place raw bytes
step_never (n ∷ names) s place (text raw bytes) = ok_never s
step_never [] s place aside = passed_never s.base s place
step_never (n ∷ names) s place aside = ok_never s

next_never : (r : Result State ReadError) (f : State → Result State ReadError) → Never r → ((s : State) → Never (f s)) → Never (r >>= f)
next_never (Ok s) f h k = k s
next_never (Err e) f h k = h

steps_never : (s : State) (ms : List Placed) → Never (steps s ms)
steps_never s [] = λ e. ok_never s (sym (steps_none s) ∙ e)
steps_never s (m ∷ ms) = λ e. next_never (step s m) (λ next. steps next ms) (step_never s.skipped s m.place m.mark) (λ next. steps_never next ms) (sym (steps_more s m ms) ∙ e)

end_never : (base : Base) (found : Found) (len : ℕ) → Never (ended_base base found len)
end_never after found len = ok_never found
end_never before found len = err_never (Malformed len) (malformed len)
end_never in_list found len = err_never (Malformed len) (malformed len)
end_never (in_hash hash h) found len = err_never (Malformed len) (malformed len)
end_never (in_hash_leaf hash h leaf at t) found len = err_never (Malformed len) (malformed len)
end_never (in_creator c) found len = err_never (Malformed len) (malformed len)
end_never (in_creator_leaf c leaf t) found len = err_never (Malformed len) (malformed len)

ended_never : (names : List (List ℕ)) (s : State) (len : ℕ) → Never (ended_skipping names s len)
ended_never [] s len = end_never s.base s.found len
ended_never (n ∷ names) s len = err_never (Malformed len) (malformed len)

markup_other : (place : ℕ) (e : MarkupError) → IsOther (markup_fault place e)
markup_other place pieces.Malformed = λ e. cc
markup_other place pieces.Doctype = λ e. cc
markup_other place pieces.Cdata = λ e. cc

text_other : (e : TextError) → IsOther (text_fault e)
text_other (texts.NotUtf8 at) = λ e. cc
text_other (texts.Refused at) = λ e. cc

at_never : (s : State) (place : ℕ) (rest : List ℕ) → FaultAt s place rest Memory → ⊥
at_never s place rest (inl h) = ended_never s.skipped s place h.1
at_never s place rest (inr (inl h)) = steps_never s _ h.4
at_never s place rest (inr (inr h)) = markup_other place _ h.2

pub no_memory_fault : (bytes : List ℕ) → FirstFault bytes Memory → ⊥
no_memory_fault bytes (inl h) = text_other h.0 h.2
no_memory_fault bytes (inr h) = at_never h.1.state _ h.1.rest h.1.fault_is
