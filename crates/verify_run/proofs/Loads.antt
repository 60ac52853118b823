-- Loading a list.
use Rattle.std.proofs.Common.{◌≡◌, ◌⊎◌, inl, inr, ℕ, List, [], ◌∷◌, sym, subst, append-nil, refl}
use Rattle.std.specs.Prelude.{Some, None, Result, Ok, Err, Vec, bytes_eq}
use Rattle.std.specs.Global.{Global}
use Rattle.std.specs.List.{IsDistinct}
use Rattle.bay_core.specs.declared.event.FileInfo.{FileInfo}
use Rattle.bay_core.specs.World.{World}
use Rattle.bay_core.specs.declared.event.Event.{Event}
use Rattle.bay_core.specs.declared.event.Event.TheVariants.{DriveList}
use Rattle.bay_core.specs.Replay.{Drive}
use Rattle.bay_core.specs.Looks.{IsUntouched, Tiles}
use Rattle.bay_core.proofs.Runs.{went_such}
use Rattle.bay_core.proofs.Looking.{tiles_look, no_tiles, untouched_one, untouched_append, looks_keep, stops_keep}
use Rattle.file_reading.specs.declared.listed.Content.{Content}
use Rattle.file_reading.specs.declared.listed.Content.TheVariants.{Bytes, Unlisted, Absent as GoneThen, TooLarge as LargeThen}
use Rattle.file_reading.specs.declared.listed.ListReadError.{ListReadError}
use Rattle.file_reading.specs.declared.listed.ListReadError.TheVariants.{DriveFailed as ReadFailed, Memory as ReadMemory}
use Rattle.file_reading.specs.Reads.{Halted}
use Rattle.file_reading.specs.Listed.{FileListed, halted_at_device}
use Rattle.file_reading.proofs.Listings.{listed_looks}
use Rattle.mhl_writer.specs.declared.values.HashList.{HashList}
use Rattle.mhl_reader.specs.declared.error.ReadError.{ReadError}
use Rattle.mhl_reader.specs.declared.error.ReadError.TheVariants.{Memory as NoMemoryRead}
use Rattle.mhl_reader.specs.Reading.{Reading}
use Rattle.mhl_reader.specs.Reading.{FirstFault}
use Rattle.mhl_writer.specs.ListText.{values_of, paths_of}
use Rattle.verify_run.specs.declared.loading.LoadError.{LoadError}
use Rattle.verify_run.specs.declared.loading.LoadError.TheVariants.{DriveFailed, Absent, TooLarge, Unreadable, Memory}
use Rattle.verify_run.specs.Loading.{largest_list, LoadCalls, Loaded}

-- ---- nothing was read

-- a call failed
pub load_failed : (d : ℕ) (path : List ℕ) (e : ListReadError) (old new : World) → e ≡ ReadFailed → Halted d (halted_at_device d e) old new → Loaded d path (Err DriveFailed) old new
load_failed d path ReadFailed old new is h = record { went = h.went; cause = λ same. h.cause; honest = λ m L honest. tt; distinct = tt }
load_failed d path ReadMemory old new is h = absurd (cc is)

-- memory was wanting
pub load_wanting : (d : ℕ) (path : List ℕ) (e : ListReadError) (old new : World) → e ≡ ReadMemory → Halted d (halted_at_device d e) old new → Loaded d path (Err Memory) old new
load_wanting d path ReadMemory old new is h = record { went = h.went; cause = λ same. absurd (cc same); honest = λ m L honest. tt; distinct = tt }
load_wanting d path ReadFailed old new is h = absurd (cc is)

module _ (d : ℕ) (path : List ℕ) (files : List FileInfo) (old new : World) where
  -- there is no such list
  pub list_unlisted : (content : Content) → content ≡ Unlisted → FileListed largest_list d path files content old new → Loaded d path (Err Absent) old new
  list_unlisted content is f =
      let g : FileListed largest_list d path files Unlisted old new = subst (λ c. FileListed largest_list d path files c old new) is f in
      record {
        went = went_such (λ L t. (files, record { calls = t.calls; is = t.is; such = inl t.such })) g.went;
        cause = λ same. absurd (cc same);
        honest = g.honest;
        distinct = tt;
      }

  pub list_absent : (content : Content) → content ≡ GoneThen → FileListed largest_list d path files content old new → Loaded d path (Err Absent) old new
  list_absent content is f =
      let g : FileListed largest_list d path files GoneThen old new = subst (λ c. FileListed largest_list d path files c old new) is f in
      record {
        went = went_such (λ L t. (files, record { calls = t.calls; is = t.is; such = inr t.such })) g.went;
        cause = λ same. absurd (cc same);
        honest = g.honest;
        distinct = tt;
      }

  -- it is too large
  pub list_large : (content : Content) (len : ℕ) → content ≡ LargeThen len → FileListed largest_list d path files content old new → Loaded d path (Err (TooLarge len)) old new
  list_large content len is f =
      let g : FileListed largest_list d path files (LargeThen len) old new = subst (λ c. FileListed largest_list d path files c old new) is f in
      record {
        went = went_such (λ L t. (files, record { calls = t.calls; is = t.is; such = t.such })) g.went;
        cause = λ same. absurd (cc same);
        honest = g.honest;
        distinct = tt;
      }

  -- ---- the bytes were read

  module _ (content : Content) (bytes : Vec ℕ Global) (is : content ≡ Bytes bytes) (f : FileListed largest_list d path files content old new) where
    abbrev text : List ℕ
    text = bytes.items

    whole : FileListed largest_list d path files (Bytes bytes) old new
    whole = subst (λ c. FileListed largest_list d path files c old new) is f

    pub list_loaded : (list : HashList) → Reading bytes.items (values_of list) → IsDistinct bytes_eq (paths_of list.entries.items) → Loaded d path (Ok list) old new
    list_loaded list means distinct = record {
      went = went_such (λ L t. (text, (files, record { calls = t.calls; is = t.is; such = t.such }), means)) whole.went;
      cause = λ failed. absurd (cc failed);
      honest = λ m L h. (text, whole.honest m L h, means);
      distinct = distinct;
    }

    pub list_refused : (e : ReadError) → (e ≡ NoMemoryRead) ⊎ FirstFault bytes.items e → (e ≡ NoMemoryRead → ⊥) → Loaded d path (Err (Unreadable e)) old new
    list_refused e (inl wanting) other = absurd (other wanting)
    list_refused e (inr fault) other = record {
      went = went_such (λ L t. (text, (files, record { calls = t.calls; is = t.is; such = t.such }), fault)) whole.went;
      cause = λ failed. absurd (cc failed);
      honest = λ m L h. (text, whole.honest m L h, fault);
      distinct = tt;
    }

    pub list_wanting : Loaded d path (Err Memory) old new
    list_wanting = record {
      went = went_such (λ L t. record {
        looks = L;
        last = [];
        is = sym (append-nil L);
        answered = listed_looks largest_list d path files (Bytes bytes) L t;
        failed = refl;
      }) whole.went;
      cause = λ failed. absurd (cc failed);
      honest = λ m L h. tt;
      distinct = tt;
    }

-- ---- loading changes nothing

listed_keeps : (d : ℕ) (files : List FileInfo) (path : List ℕ) (calls L : List Event) → L ≡ DriveList d (Some files) ∷ calls → Tiles d path 0 calls → IsUntouched L
listed_keeps d files path calls L is tiles =
    subst IsUntouched (sym is) (untouched_append (DriveList d (Some files) ∷ []) calls (untouched_one (DriveList d (Some files)) refl) (looks_keep calls (tiles_look d path 0 calls tiles)))

nothing_tiles : (d : ℕ) (path : List ℕ) (calls : List Event) → calls ≡ [] → Tiles d path 0 calls
nothing_tiles d path calls none = subst (Tiles d path 0) (sym none) (no_tiles d path 0)

pub load_keeps : (d : ℕ) (path : List ℕ) (r : Result HashList LoadError) (L : List Event) → LoadCalls d path r L → IsUntouched L
load_keeps d path (Ok list) L (bytes, (files, t), means) = listed_keeps d files path t.calls L t.is t.such.1.tiles
load_keeps d path (Err Absent) L (files, t) = listed_keeps d files path t.calls L t.is (elim t.such [ inl unlisted ↦ nothing_tiles d path t.calls unlisted.1 | inr gone ↦ gone.1.tiles ])
load_keeps d path (Err (TooLarge len)) L (files, t) = listed_keeps d files path t.calls L t.is (elim t.such [ inl listed ↦ nothing_tiles d path t.calls listed.2 | inr past ↦ past.2.tiles ])
load_keeps d path (Err (Unreadable e)) L (bytes, (files, t), fault) = listed_keeps d files path t.calls L t.is t.such.1.tiles
load_keeps d path (Err DriveFailed) L stopped = stops_keep (Some (Drive d)) L stopped
load_keeps d path (Err Memory) L stopped = stops_keep None L stopped

pub loaded_as : (r : Result HashList LoadError) (d : ℕ) (p q : List ℕ) (old new : World) → p ≡ q → Loaded d p r old new → Loaded d q r old new
loaded_as r d p q old new same l = subst (λ x. Loaded d x r old new) same l
