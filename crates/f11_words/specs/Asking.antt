-- What a command line asks for (profile).
use Rattle.std.specs.Prelude.{◌≡◌, ◌⊎◌, ℕ, Bool, true, false, List, Option, Some, None, codes, unwrap_or}
use Rattle.f11_numbers.specs.Decimal.{IsCount, IsNumber, SpellsNumber, SpellsCount}
use Rattle.f11_numbers.specs.Octal.{IsProtection, SpellsProtection, SpellsUic}
use Rattle.f11_numbers.specs.Rights.{SpellsRights}
use Rattle.f11_words.specs.Directory.{IsNoDirectory, IsNoTarget, IsNoUic, SpellsDirectory, SpellsTarget}
use Rattle.f11_words.specs.Lines.{
  CommandLine,
  del_line,
  dump_line,
  from_rt_line,
  get_all_line,
  get_blocks_line,
  get_line,
  home_line,
  init_line,
  ls_line,
  mkdir_line,
  name_line,
  prot_line,
  purge_line,
  put_all_line,
  put_each_line,
  put_line,
  quiet_run_line,
  ren_line,
  rights_line,
  rt_copy_line,
  rt_copy_onto_line,
  rt_del_line,
  rt_get_all_line,
  rt_get_line,
  rt_init_line,
  rt_list_line,
  rt_ls_line,
  rt_prot_line,
  rt_put_each_line,
  rt_put_line,
  rt_ren_line,
  rt_squeeze_line,
  rt_unprot_line,
  rt_vfy_line,
  run_line,
  to_rt_line,
  trunc_line,
  update_line,
  ls_in_line,
  vfy_line,
}
use Rattle.f11_flx.specs.declared.mode.CopyMode.{CopyMode}
use Rattle.f11_flx.specs.declared.mode.CopyMode.TheVariants.{Image, Text}
use Rattle.f11_words.specs.declared.words.TakingMode.{TakingMode}
use Rattle.f11_words.specs.declared.words.TakingMode.TheVariants.{Auto, Copy}
use Rattle.f11_words.specs.declared.directory.Directory.{Directory}
use Rattle.f11_words.specs.declared.reading.Failure.{Failure}
use Rattle.f11_words.specs.declared.reading.Failure.TheVariants.{NoMemory, Usage}
use Rattle.f11_words.specs.declared.words.Manner.{Manner}
use Rattle.f11_words.specs.declared.words.Words.{Words}
use Rattle.f11_words.specs.declared.words.Words.TheVariants.{
  Del,
  Dump,
  FlxFromRt,
  FlxToRt,
  Get,
  GetAll,
  Home,
  Init,
  Ls,
  LsIn,
  Mkdir,
  Name,
  Prot,
  Purge,
  Put,
  PutAll,
  PutEach,
  Ren,
  Rights,
  RtCopy,
  RtCopyOnto,
  RtDel,
  RtGet,
  RtGetAll,
  RtInit,
  RtList,
  RtLs,
  RtProt,
  RtPut,
  RtPutEach,
  RtRen,
  RtSqueeze,
  RtVfy,
  Run,
  Trunc,
  Vfy,
}

-- a text spells a protection word in octal, or as RSX-11 shows it
abbrev pub SpellsWord : List ℕ → ℕ → Type 0
SpellsWord text word = SpellsProtection text word ⊎ SpellsRights text word

-- a text spells none
abbrev pub IsNoWord : List ℕ → Type 0
IsNoWord text = (word : ℕ) → ¬ SpellsWord text word

-- the words ask that the file of this name in this directory of this image be deleted, or those of these names in this manner
abbrev pub AsksDel : Manner → List ℕ → List ℕ → List ℕ → Words → Type 0
AsksDel manner image dir name (Del how from directory file) =
    (how ≡ manner) × (from.now ≡ image) × SpellsDirectory dir directory × (file.now ≡ name)
AsksDel manner image dir name _ = ⊥

-- that its blocks behind the end that it states be given back
abbrev pub AsksTrunc : Manner → List ℕ → List ℕ → List ℕ → Words → Type 0
AsksTrunc manner image dir name (Trunc how from directory file) =
    (how ≡ manner) × (from.now ≡ image) × SpellsDirectory dir directory × (file.now ≡ name)
AsksTrunc manner image dir name _ = ⊥

-- that it get this protection
abbrev pub AsksProt : Manner → List ℕ → List ℕ → List ℕ → List ℕ → Words → Type 0
AsksProt manner image dir name word (Prot how from directory file protection) =
    (how ≡ manner) × (from.now ≡ image) × SpellsDirectory dir directory × (file.now ≡ name) × SpellsWord word protection
AsksProt manner image dir name word _ = ⊥

-- and that it get the name, in this directory or the other, that this text spells
abbrev pub AsksRen : List ℕ → List ℕ → List ℕ → List ℕ → Words → Type 0
AsksRen image dir name new (Ren from directory file to named) =
    (from.now ≡ image) × SpellsDirectory dir directory × (file.now ≡ name) × SpellsTarget new to named.now
AsksRen image dir name new _ = ⊥

-- the words ask that the versions be deleted of which there is a higher one, of files with this name and type, and else of all
abbrev pub AsksPurge : Manner → List ℕ → List ℕ → Option (List ℕ) → Words → Type 0
AsksPurge manner image dir name (Purge how from directory file) =
    (how ≡ manner) × (from.now ≡ image) × SpellsDirectory dir directory × (file.now ≡ unwrap_or name (codes "*.*"))
AsksPurge manner image dir name _ = ⊥

-- the words ask that this directory be made on this image
abbrev pub AsksMkdir : List ℕ → List ℕ → Words → Type 0
AsksMkdir name dir (Mkdir image directory) = (image.now ≡ name) × SpellsDirectory dir directory
AsksMkdir name dir _ = ⊥

-- the words ask for the header of this number of this image
abbrev pub AsksDump : List ℕ → List ℕ → Words → Type 0
AsksDump name text (Dump image number) = (image.now ≡ name) × SpellsNumber text number
AsksDump name text _ = ⊥

-- a mode of a copy is `image` or `text`
abbrev pub IsMode : List ℕ → Type 0
IsMode text = (text ≡ codes "image") ⊎ (text ≡ codes "text")

-- a text spells this mode of a copy
abbrev pub SpellsMode : List ℕ → CopyMode → Type 0
SpellsMode text Image = text ≡ codes "image"
SpellsMode text Text = text ≡ codes "text"

-- the words ask that this file of this RT-11 volume be copied, in this mode, to a file of this name in this directory of this image
abbrev pub AsksFromRt : List ℕ → List ℕ → List ℕ → List ℕ → List ℕ → List ℕ → Words → Type 0
AsksFromRt mode rt rt_name image uic name (FlxFromRt in_mode from from_file to directory file) = SpellsMode mode in_mode ×
    (from.now ≡ rt) × (from_file.now ≡ rt_name) × (to.now ≡ image) × SpellsUic uic directory × (file.now ≡ name)
AsksFromRt mode rt rt_name image uic name _ = ⊥

-- the words ask that this file in this directory of this image be copied, in this mode, to a file of this name of this RT-11 volume
abbrev pub AsksToRt : List ℕ → List ℕ → List ℕ → List ℕ → List ℕ → List ℕ → Words → Type 0
AsksToRt mode image uic name rt rt_name (FlxToRt in_mode from directory file to to_file) = SpellsMode mode in_mode ×
    (from.now ≡ image) × SpellsUic uic directory × (file.now ≡ name) × (to.now ≡ rt) × (to_file.now ≡ rt_name)
AsksToRt mode image uic name rt rt_name _ = ⊥

-- the mode that a text spells, and that of an image where there is none
abbrev pub SpellsModeOrNone : Option (List ℕ) → CopyMode → Type 0
SpellsModeOrNone None mode = mode ≡ Image
SpellsModeOrNone (Some text) mode = SpellsMode text mode

-- a mode of `get` is one of a copy, or `auto`,
abbrev pub IsTakingMode : List ℕ → Type 0
IsTakingMode text = (text ≡ codes "auto") ⊎ IsMode text

-- a text spells this one,
abbrev pub SpellsTakingMode : List ℕ → TakingMode → Type 0
SpellsTakingMode text (Copy mode) = SpellsMode text mode
SpellsTakingMode text Auto = text ≡ codes "auto"

-- and that of an image where there is none
abbrev pub SpellsTakingModeOrNone : Option (List ℕ) → TakingMode → Type 0
SpellsTakingModeOrNone None mode = mode ≡ Copy Image
SpellsTakingModeOrNone (Some text) mode = SpellsTakingMode text mode

-- the words ask that the file of this name in this directory of this image become, in this mode, a file of the host under this name, or
-- that it be told: up to the end that it states, or up to its last block
abbrev pub AsksGet : Bool → Bool → Option (List ℕ) → List ℕ → List ℕ → List ℕ → List ℕ → Words → Type 0
AsksGet told blocks mode image dir name host (Get is_told in_mode all_blocks from directory file to) =
    (is_told ≡ told) × (all_blocks ≡ blocks) × SpellsTakingModeOrNone mode in_mode × (from.now ≡ image) × SpellsDirectory dir directory
    × (file.now ≡ name)
    × (to.now ≡ host)
AsksGet told blocks mode image dir name host _ = ⊥

-- the words ask that all files of this image become, in this mode, files of the host in this folder
abbrev pub AsksGetAll : Option (List ℕ) → List ℕ → List ℕ → Words → Type 0
AsksGetAll mode name text (GetAll in_mode image folder) =
    SpellsTakingModeOrNone mode in_mode × (image.now ≡ name) × (folder.now ≡ text)
AsksGetAll mode name text _ = ⊥

-- the words ask that this file of the host become, in this mode, the file of this name in this directory of this image
abbrev pub AsksPut : Option (List ℕ) → List ℕ → List ℕ → List ℕ → List ℕ → Words → Type 0
AsksPut mode image dir name host (Put in_mode to directory file from) =
    SpellsModeOrNone mode in_mode × (to.now ≡ image) × SpellsDirectory dir directory × (file.now ≡ name) × (from.now ≡ host)
AsksPut mode image dir name host _ = ⊥

-- the words ask that this file of the host, the first of some, become in this mode one of its own name in this directory of this image, or
-- of one that is fitted
abbrev pub AsksPutEach : Manner → Bool → Option (List ℕ) → List ℕ → List ℕ → List ℕ → Words → Type 0
AsksPutEach manner fitted mode image dir host (PutEach how fits in_mode to directory first) =
    (how ≡ manner) × (fits ≡ fitted) × SpellsModeOrNone mode in_mode × (to.now ≡ image) × SpellsDirectory dir directory × (first.now ≡ host)
AsksPutEach manner fitted mode image dir host _ = ⊥

-- and the files of a folder of the host, made so on this volume
abbrev pub AsksPutAll : Option (List ℕ) → List ℕ → List ℕ → Words → Type 0
AsksPutAll mode text name (PutAll in_mode folder image) = SpellsModeOrNone mode in_mode × (folder.now ≡ text) × (image.now ≡ name)
AsksPutAll mode text name _ = ⊥

-- the words ask for the home block of this image
abbrev pub AsksHome : List ℕ → Words → Type 0
AsksHome name (Home image) = image.now ≡ name
AsksHome name _ = ⊥

-- the words ask that this script be served on this image, and its lines that aren't done be told on standard error, or not be told
abbrev pub AsksRun : Bool → List ℕ → List ℕ → Words → Type 0
AsksRun quiet name text (Run image script is_quiet) = (image.now ≡ name) × (script.now ≡ text) × (is_quiet ≡ quiet)
AsksRun quiet name text _ = ⊥

-- the words ask that this image be verified, and what lies idle on it be given back, or that it be verified alone
abbrev pub AsksVfy : Bool → List ℕ → Words → Type 0
AsksVfy update name (Vfy image updates) = (image.now ≡ name) × (updates ≡ update)
AsksVfy update name _ = ⊥

-- the greatest number of files that a text spells, and 4000 where there is none
abbrev pub SpellsMax : Option (List ℕ) → ℕ → Type 0
SpellsMax None max = max ≡ 4000
SpellsMax (Some text) max = SpellsNumber text max

-- The words ask for a fresh volume: of so many blocks and slots, with this label, for so many files at most, on this image.
abbrev pub AsksInit : List ℕ → List ℕ → List ℕ → Option (List ℕ) → List ℕ → Words → Type 0
AsksInit blocks slots label max image (Init to count slots_are label_is files) =
    (to.now ≡ image) × SpellsCount blocks count × SpellsNumber slots slots_are × (label_is.now ≡ label) × SpellsMax max files
AsksInit blocks slots label max image _ = ⊥

-- the number that a text spells, and none where there is no text
abbrev pub SpellsNumberOrNone : Option (List ℕ) → Option ℕ → Type 0
SpellsNumberOrNone (Some text) (Some number) = SpellsNumber text number
SpellsNumberOrNone None None = Unit {0}
SpellsNumberOrNone _ _ = ⊥

-- the words ask that all files of this RT-11 volume be copied to a fresh one in this image, of so many blocks and segments where numbers
-- are given, and else of as many as the volume has
abbrev pub AsksRtCopy : Option (List ℕ) → Option (List ℕ) → List ℕ → List ℕ → Words → Type 0
AsksRtCopy blocks segments from to (RtCopy count segments_are old new) =
    SpellsNumberOrNone blocks count × SpellsNumberOrNone segments segments_are × (old.now ≡ from) × (new.now ≡ to)
AsksRtCopy blocks segments from to _ = ⊥

-- the words ask that they be copied to the one that is there
abbrev pub AsksRtCopyOnto : List ℕ → List ℕ → Words → Type 0
AsksRtCopyOnto from to (RtCopyOnto old new) = (old.now ≡ from) × (new.now ≡ to)
AsksRtCopyOnto from to _ = ⊥

-- the words ask that this file of the RT-11 volume in this image be deleted
abbrev pub AsksRtDel : List ℕ → List ℕ → Words → Type 0
AsksRtDel image text (RtDel rt name) = (rt.now ≡ image) × (name.now ≡ text)
AsksRtDel image text _ = ⊥

-- the words ask that this file of it become, in this mode, this file of the host
abbrev pub AsksRtGet : Option (List ℕ) → List ℕ → List ℕ → List ℕ → Words → Type 0
AsksRtGet mode image text path (RtGet in_mode rt name host) =
    SpellsModeOrNone mode in_mode × (rt.now ≡ image) × (name.now ≡ text) × (host.now ≡ path)
AsksRtGet mode image text path _ = ⊥

-- the words ask that all files of the RT-11 volume in this image become files of the host in this folder
abbrev pub AsksRtGetAll : List ℕ → List ℕ → Words → Type 0
AsksRtGetAll image text (RtGetAll rt folder) = (rt.now ≡ image) × (folder.now ≡ text)
AsksRtGetAll image text _ = ⊥

-- the words ask that they be listed
abbrev pub AsksRtLs : List ℕ → Words → Type 0
AsksRtLs image (RtLs rt) = rt.now ≡ image
AsksRtLs image _ = ⊥

-- the words ask that this file of the host become, in this mode, a file of this name of the RT-11 volume in this image
abbrev pub AsksRtPut : Option (List ℕ) → List ℕ → List ℕ → List ℕ → Words → Type 0
AsksRtPut mode image text path (RtPut in_mode rt name host) =
    SpellsModeOrNone mode in_mode × (rt.now ≡ image) × (name.now ≡ text) × (host.now ≡ path)
AsksRtPut mode image text path _ = ⊥

-- the words ask that this file of the host, the first of some, become in this mode one of its own name of this volume, or of one that is
-- fitted
abbrev pub AsksRtPutEach : Manner → Bool → Option (List ℕ) → List ℕ → List ℕ → Words → Type 0
AsksRtPutEach manner fitted mode image path (RtPutEach how fits in_mode rt host) =
    (how ≡ manner) × (fits ≡ fitted) × SpellsModeOrNone mode in_mode × (rt.now ≡ image) × (host.now ≡ path)
AsksRtPutEach manner fitted mode image path _ = ⊥

-- the words ask that the files of the RT-11 volume in this image be brought to lower blocks
abbrev pub AsksRtSqueeze : List ℕ → Words → Type 0
AsksRtSqueeze image (RtSqueeze rt) = rt.now ≡ image
AsksRtSqueeze image _ = ⊥

-- the words ask that this file of it be protected, or be so no more
abbrev pub AsksRtProt : Bool → List ℕ → List ℕ → Words → Type 0
AsksRtProt protected image text (RtProt rt name on) = (rt.now ≡ image) × (name.now ≡ text) × (on ≡ protected)
AsksRtProt protected image text _ = ⊥

-- the words ask that this file of it get this name
abbrev pub AsksRtRen : List ℕ → List ℕ → List ℕ → Words → Type 0
AsksRtRen image text other (RtRen rt name new) = (rt.now ≡ image) × (name.now ≡ text) × (new.now ≡ other)
AsksRtRen image text other _ = ⊥

-- the words ask that the areas of the RT-11 volume in this image be listed
abbrev pub AsksRtList : List ℕ → Words → Type 0
AsksRtList name (RtList image) = image.now ≡ name
AsksRtList name _ = ⊥

-- the words ask that the RT-11 volume in this image be verified
abbrev pub AsksRtVfy : List ℕ → Words → Type 0
AsksRtVfy name (RtVfy image) = image.now ≡ name
AsksRtVfy name _ = ⊥

-- the words ask for a fresh RT-11 volume, of so many blocks and segments, on this image
abbrev pub AsksRtInit : List ℕ → List ℕ → List ℕ → Words → Type 0
AsksRtInit blocks segments image (RtInit to count segments_are) =
    (to.now ≡ image) × SpellsNumber blocks count × SpellsNumber segments segments_are
AsksRtInit blocks segments image _ = ⊥

-- the directory that a text spells, and none where there is no text
abbrev pub SpellsOneOrNone : Option (List ℕ) → Option Directory → Type 0
SpellsOneOrNone (Some text) (Some directory) = SpellsDirectory text directory
SpellsOneOrNone None None = Unit {0}
SpellsOneOrNone _ _ = ⊥

-- the words ask that this directory be listed, or without a text all
abbrev pub AsksLs : Bool → List ℕ → Option (List ℕ) → Words → Type 0
AsksLs long name dir (Ls is_long image) = (is_long ≡ long) × (image.now ≡ name) × SpellsOneOrNone dir None
AsksLs long name dir (LsIn is_long image directory) = (is_long ≡ long) × (image.now ≡ name) × SpellsOneOrNone dir (Some directory)
AsksLs long name dir _ = ⊥

-- the words ask for this name's words
abbrev pub AsksName : List ℕ → Words → Type 0
AsksName name (Name text) = text.now ≡ name
AsksName name _ = ⊥

-- the words ask for the rights of this caller to a file of this owner with this protection word
abbrev pub AsksRights : List ℕ → List ℕ → List ℕ → Words → Type 0
AsksRights caller owner word (Rights c o w) = SpellsUic caller c × SpellsUic owner o × SpellsProtection word w
AsksRights caller owner word _ = ⊥

-- the words ask what the command line says
abbrev pub Asks : CommandLine → Words → Type 0
Asks (del_line manner image dir name) words = AsksDel manner image dir name words
Asks (dump_line image number) words = AsksDump image number words
Asks (from_rt_line mode rt rt_name image uic name) words = AsksFromRt mode rt rt_name image uic name words
Asks (to_rt_line mode image uic name rt rt_name) words = AsksToRt mode image uic name rt rt_name words
Asks (get_line told mode image dir name host) words = AsksGet told false mode image dir name host words
Asks (get_blocks_line told image dir name host) words = AsksGet told true None image dir name host words
Asks (get_all_line mode image folder) words = AsksGetAll mode image folder words
Asks (home_line image) words = AsksHome image words
Asks (init_line blocks slots label max image) words = AsksInit blocks slots label max image words
Asks (ls_line long image) words = AsksLs long image None words
Asks (ls_in_line long image dir) words = AsksLs long image (Some dir) words
Asks (mkdir_line image dir) words = AsksMkdir image dir words
Asks (name_line text) words = AsksName text words
Asks (prot_line manner image dir name word) words = AsksProt manner image dir name word words
Asks (purge_line manner image dir name) words = AsksPurge manner image dir name words
Asks (put_line mode image dir name host) words = AsksPut mode image dir name host words
Asks (put_each_line manner fitted mode image dir host) words = AsksPutEach manner fitted mode image dir host words
Asks (put_all_line mode folder image) words = AsksPutAll mode folder image words
Asks (ren_line image dir name new) words = AsksRen image dir name new words
Asks (rights_line caller owner word) words = AsksRights caller owner word words
Asks (rt_copy_line blocks segments old new) words = AsksRtCopy blocks segments old new words
Asks (rt_copy_onto_line old new) words = AsksRtCopyOnto old new words
Asks (rt_del_line rt name) words = AsksRtDel rt name words
Asks (rt_get_line mode rt name host) words = AsksRtGet mode rt name host words
Asks (rt_get_all_line rt folder) words = AsksRtGetAll rt folder words
Asks (rt_init_line blocks segments image) words = AsksRtInit blocks segments image words
Asks (rt_list_line image) words = AsksRtList image words
Asks (rt_ls_line rt) words = AsksRtLs rt words
Asks (rt_prot_line rt name) words = AsksRtProt true rt name words
Asks (rt_unprot_line rt name) words = AsksRtProt false rt name words
Asks (rt_put_line mode rt name host) words = AsksRtPut mode rt name host words
Asks (rt_put_each_line manner fitted mode rt host) words = AsksRtPutEach manner fitted mode rt host words
Asks (rt_ren_line rt name new) words = AsksRtRen rt name new words
Asks (rt_squeeze_line rt) words = AsksRtSqueeze rt words
Asks (rt_vfy_line image) words = AsksRtVfy image words
Asks (run_line image script) words = AsksRun false image script words
Asks (quiet_run_line image script) words = AsksRun true image script words
Asks (trunc_line manner image dir name) words = AsksTrunc manner image dir name words
Asks (vfy_line image) words = AsksVfy false image words
Asks (update_line image) words = AsksVfy true image words

-- a text is there, and no number
abbrev pub IsNoNumberOrNone : Option (List ℕ) → Type 0
IsNoNumberOrNone None = ⊥
IsNoNumberOrNone (Some text) = ¬ IsNumber text

-- one of the numbers of `init` isn't one
abbrev pub IsNoInit : List ℕ → List ℕ → Option (List ℕ) → Type 0
IsNoInit blocks slots max = ¬ IsCount blocks ⊎ (¬ IsNumber slots ⊎ IsNoNumberOrNone max)

-- a text is there, and no mode
abbrev pub IsNoModeOrNone : Option (List ℕ) → Type 0
IsNoModeOrNone None = ⊥
IsNoModeOrNone (Some text) = ¬ IsMode text

-- a text is there, and no mode of `get`
abbrev pub IsNoTakingMode : Option (List ℕ) → Type 0
IsNoTakingMode None = ⊥
IsNoTakingMode (Some text) = ¬ IsTakingMode text

-- one is there, or a text spells no directory
abbrev pub IsNoGet : Option (List ℕ) → List ℕ → Type 0
IsNoGet mode dir = IsNoTakingMode mode ⊎ IsNoDirectory dir

-- a mode is there that isn't one, or a text spells no directory
abbrev pub IsNoMove : Option (List ℕ) → List ℕ → Type 0
IsNoMove mode dir = IsNoModeOrNone mode ⊎ IsNoDirectory dir

-- a copy's mode isn't one, or its user's code
abbrev pub IsNoCopy : List ℕ → List ℕ → Type 0
IsNoCopy mode uic = ¬ IsMode mode ⊎ IsNoUic uic

-- one of its texts isn't as it has to be
abbrev pub IsUnreadable : CommandLine → Type 0
IsUnreadable (del_line manner image dir name) = IsNoDirectory dir
IsUnreadable (dump_line image number) = ¬ IsNumber number
IsUnreadable (from_rt_line mode rt rt_name image uic name) = IsNoCopy mode uic
IsUnreadable (to_rt_line mode image uic name rt rt_name) = IsNoCopy mode uic
IsUnreadable (get_line told mode image dir name host) = IsNoGet mode dir
IsUnreadable (get_blocks_line told image dir name host) = IsNoDirectory dir
IsUnreadable (get_all_line mode image folder) = IsNoTakingMode mode
IsUnreadable (home_line image) = ⊥
IsUnreadable (init_line blocks slots label max image) = IsNoInit blocks slots max
IsUnreadable (ls_line long image) = ⊥
IsUnreadable (ls_in_line long image dir) = IsNoDirectory dir
IsUnreadable (mkdir_line image dir) = IsNoDirectory dir
IsUnreadable (name_line text) = ⊥
IsUnreadable (prot_line manner image dir name word) = IsNoDirectory dir ⊎ IsNoWord word
IsUnreadable (purge_line manner image dir name) = IsNoDirectory dir
IsUnreadable (put_line mode image dir name host) = IsNoMove mode dir
IsUnreadable (put_each_line manner fitted mode image dir host) = IsNoMove mode dir
IsUnreadable (put_all_line mode folder image) = IsNoModeOrNone mode
IsUnreadable (ren_line image dir name new) = IsNoDirectory dir ⊎ IsNoTarget new
IsUnreadable (rights_line caller owner word) = IsNoUic caller ⊎ (IsNoUic owner ⊎ ¬ IsProtection word)
IsUnreadable (rt_copy_line blocks segments old new) = IsNoNumberOrNone blocks ⊎ IsNoNumberOrNone segments
IsUnreadable (rt_copy_onto_line old new) = ⊥
IsUnreadable (rt_del_line rt name) = ⊥
IsUnreadable (rt_get_line mode rt name host) = IsNoModeOrNone mode
IsUnreadable (rt_get_all_line rt folder) = ⊥
IsUnreadable (rt_init_line blocks segments image) = ¬ IsNumber blocks ⊎ ¬ IsNumber segments
IsUnreadable (rt_list_line image) = ⊥
IsUnreadable (rt_ls_line rt) = ⊥
IsUnreadable (rt_prot_line rt name) = ⊥
IsUnreadable (rt_unprot_line rt name) = ⊥
IsUnreadable (rt_put_line mode rt name host) = IsNoModeOrNone mode
IsUnreadable (rt_put_each_line manner fitted mode rt host) = IsNoModeOrNone mode
IsUnreadable (rt_ren_line rt name new) = ⊥
IsUnreadable (rt_squeeze_line rt) = ⊥
IsUnreadable (rt_vfy_line image) = ⊥
IsUnreadable (run_line image script) = ⊥
IsUnreadable (quiet_run_line image script) = ⊥
IsUnreadable (trunc_line manner image dir name) = IsNoDirectory dir
IsUnreadable (vfy_line image) = ⊥
IsUnreadable (update_line image) = ⊥

-- memory ran out, or the words are wrong, since one of the texts isn't as it has to be
abbrev pub FailsToAsk : CommandLine → Failure → Type 0
FailsToAsk line failure = (failure ≡ NoMemory) ⊎ ((failure ≡ Usage) × IsUnreadable line)
