-- What `rt-get --all` takes out of an RT-11 volume, faulty or not: every file, one after another (profile).
use Rattle.std.specs.Prelude.{◌≡◌, ◌⊎◌, ℕ, ◌+◌, ◌-◌, ◌<◌, ◌≤◌, ◌==◌, ◌&&◌, ◌||◌, Bool, true, false, if◌then◌else◌, min, List, [], ◌∷◌, ◌++◌}
use Rattle.std.specs.Prelude.{codes}
use Rattle.std.specs.Prelude.{Option, Some, None, Result, Ok, Err, find, is_some, length}
use Rattle.std.specs.Fmt.{decimal}
use Rattle.std.specs.List.{slice_get}
use Rattle.f11_dev.specs.Disk.{Disk}
use Rattle.f11_dev.specs.Looked.{Looked}
use Rattle.rt11_volume.specs.AnyDirectory.{fits, is_sound_file_named}
use Rattle.rt11_volume.specs.RtName.{rt_name_text}
use Rattle.rt11_volume.specs.declared.any_entries.RtEntry.{RtEntry}
use Rattle.rt11_volume.specs.declared.any_state.RtState.{RtState}
use Rattle.rt11_volume.specs.declared.area.RtKind.{RtKind}
use Rattle.rt11_volume.specs.declared.area.RtKind.TheVariants.{Tentative, Empty, Permanent}
use Rattle.f11_commands.specs.Output.{WriterTakes}
use Rattle.f11_commands.specs.RtAny.{replaced_text}
use Rattle.f11_commands.specs.RtTaking.{StopsTaking, TakesArea, broken_text, first_past}
use Rattle.f11_commands.specs.declared.outcome.FileAnswer.{FileAnswer}
use Rattle.f11_commands.specs.declared.outcome.FileAnswer.TheVariants.{Done, Refused}
use Rattle.f11_commands.specs.declared.outcome.Failure.{Failure}
use Rattle.f11_commands.specs.declared.outcome.Failure.TheVariants.{DeviceFault, NoMemory, CannotWrite}
use Rattle.f11_commands.specs.declared.rt_all.found.RtFate.{RtFate}
use Rattle.f11_commands.specs.declared.rt_all.found.RtFate.TheVariants as fate
use Rattle.f11_commands.specs.declared.rt_all.found.RtFileAt.{RtFileAt}
use Rattle.f11_commands.specs.declared.rt_all.found.RtPlace.{RtPlace}
use Rattle.f11_commands.specs.declared.rt_all.found.RtPlace.TheVariants.{Named, Lost}
use Rattle.f11_commands.specs.declared.rt_all.found.RtWhyNot.{RtWhyNot}
use Rattle.f11_commands.specs.declared.rt_all.found.RtWhyNot.TheVariants as why
use Rattle.f11_commands.specs.declared.rt_all.state.RtCounts.{RtCounts}
use Rattle.f11_commands.specs.declared.rt_all.state.TakingAllRt.{TakingAllRt}
use Rattle.f11_commands.specs.declared.rt_all.taking.RtTaken.{RtTaken}
use Rattle.f11_commands.specs.declared.rt_any.RtServed.{RtServed}

-- what becomes of an entry: a file's area is taken out where a directory may give it away, and of one whose status is wrong it is told
abbrev pub fate_by : Option RtKind → Bool → RtFate
fate_by None fitting = fate.NotCopied why.StatusWrong
fate_by (Some Tentative) fitting = fate.NoFile
fate_by (Some Empty) fitting = fate.NoFile
fate_by (Some Permanent) fitting = if fitting then fate.Copied else fate.NotCopied why.PastLastBlock

-- an entry is this one
abbrev pub is_this : RtEntry → Option RtEntry → Bool
is_this e None = false
is_this e (Some other) = other.segment == e.segment && other.number == e.number

-- where an entry of this name stands: under it, where it is the first of a file with it that can be taken out; else in `lost`
abbrev pub place_by : List RtEntry → RtEntry → Option (List ℕ) → RtPlace
place_by entries e None = Lost e.segment e.number None
place_by entries e (Some name) =
    if is_this e (find (is_sound_file_named name) entries) then Named name else Lost e.segment e.number (Some name)

-- an entry among those of a volume, where it stands, and what becomes of it
abbrev pub file_at : List RtEntry → RtEntry → RtFileAt
file_at entries e = record { entry = e; place = place_by entries e e.name; fate = fate_by e.kind (fits e) }

-- a name behind the numbers, if there is one
abbrev pub name_behind : Option (List ℕ) → List ℕ
name_behind None = []
name_behind (Some name) = codes " " ++ rt_name_text name

-- the text of a place, which is the host's path in the folder, too
abbrev pub rt_place_text : RtPlace → List ℕ
rt_place_text (Named name) = rt_name_text name
rt_place_text (Lost segment number name) =
    codes "lost/" ++ (decimal segment ++ (codes "," ++ (decimal number ++ name_behind name)))

-- why an entry isn't taken out
abbrev pub why_not_text : RtWhyNot → List ℕ
why_not_text why.StatusWrong = codes "status wrong"
why_not_text why.PastLastBlock = codes "past block 65534"
why_not_text why.CannotMake = codes "cannot be made"

-- why an entry wasn't taken out of which this was to become: what was to be copied couldn't be made on the host
abbrev pub why_of : RtFate → RtWhyNot
why_of fate.NoFile = why.CannotMake
why_of fate.Copied = why.CannotMake
why_of (fate.NotCopied reason) = reason

-- the line of a file that was taken out, but for its end
abbrev pub copied_text : RtPlace → RtTaken → List ℕ
copied_text place taken = rt_place_text place ++ (codes " copied " ++ (decimal taken.blocks ++ broken_text taken.missing))

-- that line, with those of the file's blocks that are bad, and that of an entry that wasn't taken out
abbrev pub copied_at_line : List ℕ → RtFileAt → RtTaken → List ℕ
copied_at_line bad found taken =
    copied_text found.place taken ++ (replaced_text bad found.entry.first found.entry.blocks ++ 10 ∷ [])

abbrev pub not_copied_line : RtPlace → RtWhyNot → List ℕ
not_copied_line place why = rt_place_text place ++ (codes " not copied " ++ (why_not_text why ++ 10 ∷ []))

-- one more, as far as is counted
abbrev pub one_more : ℕ → ℕ
one_more n = min (n + 1) 4294967295

abbrev pub one_more_if : Bool → ℕ → ℕ
one_more_if holds n = if holds then one_more n else n

-- a place is in `lost`
abbrev pub is_lost : RtPlace → Bool
is_lost (Named name) = false
is_lost (Lost segment number name) = true

-- what is counted behind a file that was taken out, and behind one that wasn't
abbrev pub counted_copied : RtPlace → Option ℕ → RtCounts → RtCounts
counted_copied place missing c = record {
  copied = one_more c.copied;
  cut = one_more_if (is_some missing) c.cut;
  not_copied = c.not_copied;
  lost = one_more_if (is_lost place) c.lost;
}

abbrev pub counted_refused : RtCounts → RtCounts
counted_refused c = record { copied = c.copied; cut = c.cut; not_copied = one_more c.not_copied; lost = c.lost }

-- the last line
abbrev pub counts_line : RtCounts → List ℕ
counts_line c = codes "all " ++ (decimal c.copied ++ (codes " copied, " ++ (decimal c.cut ++ (codes " cut, " ++
    (decimal c.not_copied ++ (codes " not copied, " ++ (decimal c.lost ++ (codes " in lost" ++ 10 ∷ []))))))))

-- how the command's work ended: all is well where nothing was cut and nothing left
abbrev pub counts_answer : RtCounts → FileAnswer
counts_answer c = if c.cut == 0 && c.not_copied == 0 then Done else Refused

-- its device, all entries of its directory, its bad blocks, which entry is the next, how the volume is, what was counted, and whether a
-- transfer failed
abbrev pub device_of : {D : Type 0} → TakingAllRt D → D
device_of all = all.device

abbrev pub entries_of : {D : Type 0} → TakingAllRt D → List RtEntry
entries_of all = all.entries

abbrev pub bad_of : {D : Type 0} → TakingAllRt D → List ℕ
bad_of all = all.bad

abbrev pub next_of : {D : Type 0} → TakingAllRt D → ℕ
next_of all = all.next

abbrev pub state_of : {D : Type 0} → TakingAllRt D → RtState
state_of all = all.state

abbrev pub counts_of : {D : Type 0} → TakingAllRt D → RtCounts
counts_of all = all.counts

abbrev pub has_failed : {D : Type 0} → TakingAllRt D → Bool
has_failed all = all.failed

-- how many entries are still to come
abbrev pub entries_left : {D : Type 0} → TakingAllRt D → ℕ
entries_left all = length all.entries - all.next

-- nothing was counted yet
abbrev pub no_counts : RtCounts
no_counts = record { copied = 0; cut = 0; not_copied = 0; lost = 0 }

-- A file's blocks were written; or a transfer failed behind some of them.
pub record TakesWholeArea {H : Type 0} (e : RtEntry) (taken : RtTaken) (old new : Disk) (held : H → Option (List ℕ)) (before after : H)
    : Type 0 where
  pub well : taken.failed ≡ false
  pub takes : TakesArea e.first e.blocks old new held before after
  pub blocks_are : taken.blocks ≡ e.blocks
  pub missing_is : taken.missing ≡ first_past e.first e.blocks (length old.image)

pub record TakesPartOfArea {H : Type 0} (e : RtEntry) (taken : RtTaken) (old new : Disk) (held : H → Option (List ℕ)) (before after : H)
    : Type 0 where
  pub failed : taken.failed ≡ true
  pub stops : StopsTaking e.first e.blocks taken.blocks old new held before after
  pub missing_is : taken.missing ≡ Some (taken.blocks + 1)

pub data TakesEntry {H : Type 0} (e : RtEntry) (taken : RtTaken) (old new : Disk) (held : H → Option (List ℕ)) (before after : H)
    : Type 0 where
  whole : TakesWholeArea e taken old new held before after → TakesEntry e taken old new held before after
  part : TakesPartOfArea e taken old new held before after → TakesEntry e taken old new held before after

module _ {D : Type 0} where
  -- The same volume is in hand, and the same entries are to come.
  pub record StaysInHand (all later : TakingAllRt D) : Type 0 where
    pub entries : entries_of later ≡ entries_of all
    pub bad : bad_of later ≡ bad_of all
    pub next : next_of later ≡ next_of all
    pub left : entries_left later ≡ entries_left all
    pub state : state_of later ≡ state_of all

  -- The next entry was given, with where it stands and what becomes of it, and no transfer was made.
  pub record GivesNext (found : RtFileAt) (all later : TakingAllRt D) : Type 0 where
    pub entry_is : slice_get (entries_of all) (next_of all) ≡ Some found.entry
    pub found_is : found ≡ file_at (entries_of all) found.entry
    pub entries : entries_of later ≡ entries_of all
    pub bad : bad_of later ≡ bad_of all
    pub next : next_of later ≡ next_of all + 1
    pub fewer : entries_left later < entries_left all
    pub state : state_of later ≡ state_of all
    pub counts : counts_of later ≡ counts_of all
    pub failed : has_failed later ≡ has_failed all
    pub device : device_of later ≡ device_of all

  -- There is none, and nothing changed.
  pub record HasNoNext (all later : TakingAllRt D) : Type 0 where
    pub none : length (entries_of all) ≤ next_of all
    pub same : later ≡ all

-- A file was taken out to the host, as far as it could be, and counted; it is known if a transfer failed.
pub record TakesOut {D H : Type 0} (found : RtFileAt) (taken : RtTaken) (disk : D → Disk) (all later : TakingAllRt D)
    (held : H → Option (List ℕ)) (host host' : H) : Type 0 where
  pub stays : StaysInHand all later
  pub takes : TakesEntry found.entry taken (disk (device_of all)) (disk (device_of later)) held host host'
  pub failed : has_failed later ≡ (has_failed all || taken.failed)
  pub counts : counts_of later ≡ counted_copied found.place taken.missing (counts_of all)

-- It was, and its line says how far.
pub record TakesNext {D H W : Type 0} (found : RtFileAt) (disk : D → Disk) (all later : TakingAllRt D)
    (held : H → Option (List ℕ)) (host host' : H) (contents : W → Option (List ℕ)) (before after : W) : Type 0 where
  pub taken : RtTaken
  pub takes_out : TakesOut found taken disk all later held host host'
  pub line : WriterTakes contents before after (copied_at_line (bad_of all) found taken)

-- The host took no more, and no transfer failed. Nothing was counted.
pub record FillsHost {D : Type 0} (found : RtFileAt) (disk : D → Disk) (all later : TakingAllRt D) : Type 0 where
  pub stays : StaysInHand all later
  pub failed : has_failed later ≡ has_failed all
  pub counts : counts_of later ≡ counts_of all
  pub looked : Looked (disk (device_of all)) (disk (device_of later)) found.entry.blocks 0

-- The host took no more, and no line was begun; or it has all that was to be taken out and the writer took no more of the line.
pub data CannotTake {D H W : Type 0} (found : RtFileAt) (disk : D → Disk) (all later : TakingAllRt D)
    (held : H → Option (List ℕ)) (host host' : H) (before after : W) : Type 0 where
  host_full : FillsHost found disk all later → after ≡ before → CannotTake found disk all later held host host' before after
  line_lost : (taken : RtTaken) → TakesOut found taken disk all later held host host'
      → CannotTake found disk all later held host host' before after

abbrev pub FailsToTake : {D H W : Type 0} → Failure → RtFileAt → (D → Disk) → TakingAllRt D → TakingAllRt D
    → (H → Option (List ℕ)) → H → H → W → W → Type 0
FailsToTake DeviceFault found disk all later held host host' before after = ⊥
FailsToTake NoMemory found disk all later held host host' before after = ⊥
FailsToTake CannotWrite found disk all later held host host' before after = CannotTake found disk all later held host host' before after

-- An entry wasn't taken out, and was counted; nothing else changes.
pub record CountsRefused {D : Type 0} (all later : TakingAllRt D) : Type 0 where
  pub stays : StaysInHand all later
  pub device : device_of later ≡ device_of all
  pub failed : has_failed later ≡ has_failed all
  pub counts : counts_of later ≡ counted_refused (counts_of all)

-- Its line says why;
pub record RefusesNext {D W : Type 0} (found : RtFileAt) (all later : TakingAllRt D)
    (contents : W → Option (List ℕ)) (before after : W) : Type 0 where
  pub refuses : CountsRefused all later
  pub line : WriterTakes contents before after (not_copied_line found.place (why_of found.fate))

-- or the writer took no more of it.
abbrev pub FailsToRefuse : {D : Type 0} → Failure → TakingAllRt D → TakingAllRt D → Type 0
FailsToRefuse DeviceFault all later = ⊥
FailsToRefuse NoMemory all later = ⊥
FailsToRefuse CannotWrite all later = CountsRefused all later

-- what the command answers: that a transfer failed, or how its work ended
abbrev pub all_answered : {D : Type 0} → TakingAllRt D → Result RtServed Failure
all_answered all = if all.failed then Err DeviceFault else Ok (record { answer = counts_answer all.counts; state = all.state })

-- How it ends: the last line was written; or the writer took no more of it, which is answered where no transfer failed.
pub data EndsAll {D W : Type 0} (all : TakingAllRt D) (served : Result RtServed Failure) (contents : W → Option (List ℕ))
    (before after : W) : Type 0 where
  told : served ≡ all_answered all → WriterTakes contents before after (counts_line (counts_of all))
      → EndsAll all served contents before after
  untold : served ≡ Err (if has_failed all then DeviceFault else CannotWrite) → EndsAll all served contents before after
