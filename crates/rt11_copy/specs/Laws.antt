-- Laws of copying files of one RT-11 volume to another, for whoever does (profile).
use Rattle.std.specs.Prelude.{◌≡◌, ℕ, false, List, Some}
use Rattle.std.specs.List.{slice_get}
use Rattle.f11_dev.specs.Disk.{Disk}
use Rattle.f11_dev.specs.Image.{Image}
use Rattle.rt11_volume.specs.AnyDirectory.{directory_entries}
use Rattle.rt11_volume.specs.Directory.{IsSized}
use Rattle.rt11_volume.specs.Entry.{is_same_name}
use Rattle.rt11_volume.specs.Named.{files_named}
use Rattle.rt11_volume.specs.Store.{rt_store_of}
use Rattle.rt11_volume.specs.Verifying.Verdict.{IsSoundDisk}
use Rattle.rt11_volume.specs.declared.any_entries.RtEntry.{RtEntry}
use Rattle.rt11_copy.specs.Copies.{CopiesEach}
use Rattle.rt11_copy.specs.Entries.{IsToCopy}
use Rattle.rt11_copy.specs.Reading.{HasSegment}
use Rattle.rt11_copy.specs.declared.outcome.RtCopied.{RtCopied}
use Rattle.rt11_copy.specs.declared.outcome.RtCopied.TheVariants.{Copied}

-- The segment of each entry that is read of a directory, faulty or not, is on the image: so the date of its file is told.
abbrev pub EntriesHaveSegments : Type 0
EntriesHaveSegments =
    (image : Image) (k : ℕ) (e : RtEntry) → IsSized image → slice_get (directory_entries image) k ≡ Some e → HasSegment e image

-- no file that is told as copied had this name
abbrev pub IsOfNone : List ℕ → List RtEntry → List RtCopied → Disk → Type 0
IsOfNone name entries outcomes from =
    (k : ℕ) (e : RtEntry) (of : List ℕ) → slice_get entries k ≡ Some e → slice_get outcomes k ≡ Some Copied → IsToCopy e of from →
    is_same_name of name ≡ false

-- Nothing else comes to a sound volume than the files that are told as copied: of a name that none of them had the files are those that
-- there were.
abbrev pub NothingElseComes : Type 0
NothingElseComes =
    (entries : List RtEntry) (outcomes : List RtCopied) (from old new : Disk) (name : List ℕ) → CopiesEach from entries outcomes old new
    → IsSoundDisk old → IsOfNone name entries outcomes from
    → files_named name (rt_store_of new.image) ≡ files_named name (rt_store_of old.image)
