-- The text of each line that refuses: docs/FORMATS.md, "Lines".
use Rattle.std.specs.Prelude.{ℕ, ◌++◌, List, [], ◌∷◌, codes, decimal}
use Rattle.digest_set.specs.declared.triple.Triple.{Triple}
use Rattle.path_text.specs.declared.path.PathError.{PathError}
use Rattle.report_text.specs.Fields.{fields, triple_fields, cause_fields}

-- `refused toomanyfiles COUNT`
abbrev pub refused_toomanyfiles_text : ℕ → List ℕ
refused_toomanyfiles_text count = fields (codes "refused toomanyfiles") (decimal count ∷ [])

-- `refused toomanybytes SUM`: the paths have too many bytes
abbrev pub refused_toomanybytes_text : ℕ → List ℕ
refused_toomanybytes_text sum = fields (codes "refused toomanybytes") (decimal sum ∷ [])

-- `refused badpath INDEX CAUSE`: why the name of a listed file is no path, which is not want of memory
abbrev pub refused_badpath_text : ℕ → PathError → List ℕ
refused_badpath_text index cause = fields (codes "refused badpath") (decimal index ∷ cause_fields cause)

-- `refused baddate PATH`: the file was changed after the year 9999
abbrev pub refused_baddate_text : List ℕ → List ℕ
refused_baddate_text path = fields (codes "refused baddate") (path ∷ [])

-- `refused control PATH`: a path of the control folder
abbrev pub refused_control_text : List ℕ → List ℕ
refused_control_text path = fields (codes "refused control") (path ∷ [])

-- `refused toobig PATH`
abbrev pub refused_toobig_text : List ℕ → List ℕ
refused_toobig_text path = fields (codes "refused toobig") (path ∷ [])

-- `refused clash PATH`: it and the path of the next line stand in each other's way
abbrev pub refused_clash_text : List ℕ → List ℕ
refused_clash_text path = fields (codes "refused clash") (path ∷ [])

-- `with PATH`: the second path of a clash
abbrev pub with_text : List ℕ → List ℕ
with_text path = fields (codes "with") (path ∷ [])

-- `refused unsealed PATH`: the entry of the source's list says too little, or is of the list itself
abbrev pub refused_unsealed_text : List ℕ → List ℕ
refused_unsealed_text path = fields (codes "refused unsealed") (path ∷ [])

-- `refused sourcemissing PATH`: the source has no such file
abbrev pub refused_sourcemissing_text : List ℕ → List ℕ
refused_sourcemissing_text path = fields (codes "refused sourcemissing") (path ∷ [])

-- `refused sourcesize LISTED FOUND PATH`
abbrev pub refused_sourcesize_text : ℕ → ℕ → List ℕ → List ℕ
refused_sourcesize_text listed found path = fields (codes "refused sourcesize") (decimal listed ∷ decimal found ∷ path ∷ [])

-- `refused otherlist LIST`: the offload on the drives was not begun from this list
abbrev pub refused_otherlist_text : List ℕ → List ℕ
refused_otherlist_text list = fields (codes "refused otherlist") (list ∷ [])

-- `refused noroom PATH`: the first file that fits on no drive
abbrev pub refused_noroom_text : List ℕ → List ℕ
refused_noroom_text path = fields (codes "refused noroom") (path ∷ [])

-- `refused begun D`: an offload was begun on the drive
abbrev pub refused_begun_text : ℕ → List ℕ
refused_begun_text d = fields (codes "refused begun") (decimal d ∷ [])

-- `refused notajournal D AT`: the bytes of the journal hold none, by the place AT
abbrev pub refused_notajournal_text : ℕ → ℕ → List ℕ
refused_notajournal_text d at = fields (codes "refused notajournal") (decimal d ∷ decimal at ∷ [])

-- `refused occupied D PATH`: something on the drive stands in the way of the path
abbrev pub refused_occupied_text : ℕ → List ℕ → List ℕ
refused_occupied_text d path = fields (codes "refused occupied") (decimal d ∷ path ∷ [])

-- `refused plandiffers A B AT`: the first place where the codes of the plans on two drives differ
abbrev pub refused_plandiffers_text : ℕ → ℕ → ℕ → List ℕ
refused_plandiffers_text first second at = fields (codes "refused plandiffers") (decimal first ∷ decimal second ∷ decimal at ∷ [])

-- `refused carddiffers AT`: the first file of the card that is not as the plan says, from 0
abbrev pub refused_carddiffers_text : ℕ → List ℕ
refused_carddiffers_text at = fields (codes "refused carddiffers") (decimal at ∷ [])

-- `refused journalfalse D absent PATH`: a recorded file is not there
abbrev pub refused_journalfalse_absent_text : ℕ → List ℕ → List ℕ
refused_journalfalse_absent_text d path = fields (codes "refused journalfalse") (decimal d ∷ codes "absent" ∷ path ∷ [])

-- `refused journalfalse D length RECORDED READ PATH`
abbrev pub refused_journalfalse_length_text : ℕ → ℕ → ℕ → List ℕ → List ℕ
refused_journalfalse_length_text d recorded read path = fields (codes "refused journalfalse") (decimal d ∷ codes "length" ∷ decimal recorded ∷ decimal read ∷ path ∷ [])

-- `refused journalfalse D altered RECORDED READ PATH`
abbrev pub refused_journalfalse_altered_text : ℕ → Triple → Triple → List ℕ → List ℕ
refused_journalfalse_altered_text d recorded read path = fields (codes "refused journalfalse") (decimal d ∷ codes "altered" ∷ triple_fields recorded ++ triple_fields read ++ path ∷ [])

-- `refused spandiffers D`: the plan on the drive is not of the same span
abbrev pub refused_spandiffers_text : ℕ → List ℕ
refused_spandiffers_text d = fields (codes "refused spandiffers") (decimal d ∷ [])
