-- Worked examples: command lines, and their words as they are written.
use Rattle.std.specs.Prelude.{◌≡◌, true, false, [], ◌∷◌, Some, None, codes}
use Rattle.f11_words.specs.Lines.{from_rt_line, get_all_line, get_blocks_line, get_line, init_line, quiet_run_line, rt_get_all_line}
use Rattle.f11_words.specs.Lines.{put_each_line, rt_init_line}
use Rattle.f11_words.specs.declared.words.Manner.TheVariants.{Stops}
use Rattle.f11_words.specs.Lines.{to_rt_line, update_line, words_given}

-- a file is taken out as the records of a text,
abbrev pub GetText : Type 0
GetText = words_given (get_line false (Some (codes "text")) (codes "a.dsk") (codes "1,2") (codes "A.B;1") (codes "a.b"))
    ≡ codes "get" ∷ codes "--mode" ∷ codes "text" ∷ codes "a.dsk" ∷ codes "1,2" ∷ codes "A.B;1" ∷ codes "a.b" ∷ []

-- as it is, where no mode is given,
abbrev pub GetImage : Type 0
GetImage = words_given (get_line false None (codes "a.dsk") (codes "1,2") (codes "A.B;1") (codes "a.b"))
    ≡ codes "get" ∷ codes "a.dsk" ∷ codes "1,2" ∷ codes "A.B;1" ∷ codes "a.b" ∷ []

-- with all its blocks, which is only told,
abbrev pub GetBlocks : Type 0
GetBlocks = words_given (get_blocks_line true (codes "a.dsk") (codes "1,2") (codes "A.B;1") (codes "a.b"))
    ≡ codes "get" ∷ codes "-n" ∷ codes "--blocks" ∷ codes "a.dsk" ∷ codes "1,2" ∷ codes "A.B;1" ∷ codes "a.b" ∷ []

-- and with all others
abbrev pub GetAll : Type 0
GetAll = words_given (get_all_line None (codes "a.dsk") (codes "out")) ≡ codes "get" ∷ codes "--all" ∷ codes "a.dsk" ∷ codes "out" ∷ []

-- files of the host are put under their own names, up to one that is refused, and the first stands so
abbrev pub PutEach : Type 0
PutEach = words_given (put_each_line Stops false (Some (codes "text")) (codes "a.dsk") (codes "1,2") (codes "a.b"))
    ≡ codes "put" ∷ codes "--stop" ∷ codes "--each" ∷ codes "--mode" ∷ codes "text" ∷ codes "a.dsk" ∷ codes "1,2" ∷ codes "a.b" ∷ []

-- a fresh volume, with a number of files and without one
abbrev pub InitMax : Type 0
InitMax = words_given (init_line (codes "400") (codes "40") (codes "L") (Some (codes "50")) (codes "a.dsk"))
    ≡ codes "init" ∷ codes "--blocks" ∷ codes "400" ∷ codes "--slots" ∷ codes "40" ∷ codes "--label" ∷ codes "L" ∷ codes "--max"
    ∷ codes "50" ∷ codes "a.dsk" ∷ []

abbrev pub Init : Type 0
Init = words_given (init_line (codes "400") (codes "40") (codes "L") None (codes "a.dsk"))
    ≡ codes "init" ∷ codes "--blocks" ∷ codes "400" ∷ codes "--slots" ∷ codes "40" ∷ codes "--label" ∷ codes "L" ∷ codes "a.dsk" ∷ []

-- copies to an RT-11 volume, and from one
abbrev pub ToRt : Type 0
ToRt = words_given (to_rt_line (codes "image") (codes "a.dsk") (codes "1,2") (codes "A.B;1") (codes "rt.dsk") (codes "A.B"))
    ≡ codes "flx-to-rt" ∷ codes "--mode" ∷ codes "image" ∷ codes "a.dsk" ∷ codes "1,2" ∷ codes "A.B;1" ∷ codes "rt.dsk" ∷ codes "A.B" ∷ []

abbrev pub FromRt : Type 0
FromRt = words_given (from_rt_line (codes "text") (codes "rt.dsk") (codes "A.B") (codes "a.dsk") (codes "1,2") (codes "A.B;1"))
    ≡ codes "flx-from-rt" ∷ codes "--mode" ∷ codes "text" ∷ codes "rt.dsk" ∷ codes "A.B" ∷ codes "a.dsk" ∷ codes "1,2" ∷ codes "A.B;1" ∷ []

-- the RT-11 volumes' own
abbrev pub RtGetAll : Type 0
RtGetAll = words_given (rt_get_all_line (codes "rt.dsk") (codes "out")) ≡ codes "rt-get" ∷ codes "--all" ∷ codes "rt.dsk" ∷ codes "out" ∷ []

abbrev pub RtInit : Type 0
RtInit = words_given (rt_init_line (codes "800") (codes "4") (codes "rt.dsk"))
    ≡ codes "rt-init" ∷ codes "--blocks" ∷ codes "800" ∷ codes "--segments" ∷ codes "4" ∷ codes "rt.dsk" ∷ []

-- flags
abbrev pub QuietRun : Type 0
QuietRun = words_given (quiet_run_line (codes "a.dsk") (codes "s.txt")) ≡ codes "run" ∷ codes "--quiet" ∷ codes "a.dsk" ∷ codes "s.txt" ∷ []

abbrev pub Update : Type 0
Update = words_given (update_line (codes "a.dsk")) ≡ codes "vfy" ∷ codes "--update" ∷ codes "a.dsk" ∷ []
