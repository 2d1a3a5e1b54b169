use Rattle.std.proofs.Common.{rules, refl, ◌≡◌, ◌∙◌, ◌+◌, ◌≤◌, true, false, ap, sym, subst, length, List, ℕ, arith}
use Rattle.f11_dev.specs.Disk.{Disk}
use Rattle.f11_dev.specs.Image.{Image}
use Rattle.f11_dev.specs.Looked.{Looked}
use Rattle.f11_dev.specs.Went.{Went}
use Rattle.f11_dev.proofs.LookedLemmas.{looked_more}
use Rattle.f11_dev.proofs.WentLemmas.{went_looked, went_more, went_weaker, went_within}
use Rattle.rt11_volume.specs.Directory.{segment_of}
use Rattle.rt11_volume.specs.Entry.{area_length}
use Rattle.rt11_volume.specs.Files.{KeepsFiles}
use Rattle.rt11_volume.specs.InHand.{KeepsOthers}
use Rattle.rt11_volume.specs.Searching.Looking.{FindsRoom, found_entry}
use Rattle.rt11_volume.specs.Verifying.Verdict.{IsSoundDisk}
use Rattle.rt11_volume.specs.Searching.Search.{is_empty_for}
use Rattle.rt11_volume.specs.Segment.{segment_words, segment_count, highest_segment}
use Rattle.rt11_volume.specs.Rewriting.Split.{HasNext, HoldsFirst, KeepsSplit}
use Rattle.rt11_volume.specs.declared.lookup.entry.Found.{Found}
use Rattle.rt11_volume.specs.declared.refusal.RtRefusal.TheVariants.{DeviceFault}
use Rattle.rt11_volume.proofs.AnswerLemmas.{faults-handed_on}
use Rattle.rt11_volume.proofs.CreateLemmas.{area-fits, created-here}
use Rattle.rt11_volume.proofs.DeleteLemmas.{found-ends, others-data}
use Rattle.rt11_volume.proofs.Verifying.Keep.{visited-low}
use Rattle.rt11_volume.proofs.Verifying.Sound.{sound_from}
use Rattle.rt11_volume.proofs.Splitting.Create.{created-split, directory-full, split-data}
use Rattle.rt11_volume.proofs.Splitting.Disk.{three-written}
use Rattle.rt11_volume.proofs.create.file.create_file.Goals as goal
use Rattle.rt11_volume.proofs.create.file.create_file.Goals.{then-not-has_end-via-then-not-has_end}
use Rattle.rt11_volume.proofs.create.file.create_file.Goals.{then-not-has_end-via-else-not-has_end+then-entry-file}

-- segment 1 is in hand
first-words : (name : List ℕ) (blocks : ℕ) (old mid now : Disk) (found : Found) (first : List ℕ) → FindsRoom name blocks found old
    → Looked old mid 62 0 → HoldsFirst found first mid now → IsSoundDisk old → first ≡ segment_words old.image 1
first-words name blocks old mid now found first finds looked holds sound =
    holds.words_are (looked.honest ∙ sound.honest)
    ((finds.is_first sound).words_are ∙ ap (λ (i : Image). segment_words i found.number) (sym looked.image))
    ∙ ap (λ (i : Image). segment_words i 1) looked.image

-- what went on where the segment in hand was written, and where it was split
here-went : (name : List ℕ) (blocks faults : ℕ) (old now new : Disk) (found : Found) → FindsRoom name blocks found old → Looked old now 62 0
    → Went (KeepsOthers found.number now.image) now new 2 faults → Went (KeepsFiles old) old new 70 faults
here-went name blocks faults old now new found finds looked went =
    let P = KeepsFiles old in
    went_within P (went_more P (went_looked P looked) (went_weaker (KeepsOthers found.number now.image) P (λ image kept sound.
    let is = finds.is_first sound in
    others-data found.number old.image image finds.on_device.some
    (visited-low old.image is.place found.number (sound_from old.image sound.accepted) is.visited_at)
    (subst (λ (i : Image). KeepsOthers found.number i image) looked.image kept)) went)) (omega arith)

split-went : (name : List ℕ) (blocks faults size : ℕ) (old mid now new : Disk) (found : Found) (first : List ℕ)
    → FindsRoom name blocks found old → Looked old mid 62 0 → HoldsFirst found first mid now → HasNext found first size
    → Went (KeepsSplit found.number (highest_segment first + 1) now.image) now new 6 faults → Went (KeepsFiles old) old new 70 faults
split-went name blocks faults size old mid now new found first finds looked holds next went =
    let P = KeepsFiles old in
    let number : ℕ = highest_segment first + 1 in
    let both = looked_more looked holds.looked in
    went_more P (went_looked P both) (went_weaker (KeepsSplit found.number number now.image) P (λ image kept sound.
    let is = finds.is_first sound in
    let first_is = first-words name blocks old mid now found first finds looked holds sound in
    split-data found.number number old.image image finds.on_device.some
    (visited-low old.image is.place found.number (sound_from old.image sound.accepted) is.visited_at) (omega arith)
    (omega (arith, next.room, ap (λ (s : List ℕ). segment_count s) first_is))
    (subst (λ (i : Image). KeepsSplit found.number number i image) both.image kept)) went)

pub returns-then-not-has_end-clause-refused : goal.returns-then-not-has_end-clause-refused
returns-then-not-has_end-clause-refused g c = λ sound.
    let old = g.D.Device.disk c.args.device.now in
    let finds = c.in_ok-found.ensures.found in
    let is = finds.is_first sound in
    let f = c.in_ok-found.found in
    elim c.then-not-has_end.branch [
      | then-not-has_end-via-then-not-has_end w ↦
          let ends = c.has_end.ensures.1 (found-ends (is_empty_for c.args.file.blocks) old.image f (sound_from old.image sound.accepted) is)
          in
          let clash : true ≡ false = sym ends ∙ w.if-not-has_end.true in
          absurd (cc)
      | then-not-has_end-via-else-not-has_end+then-entry-file w ↦
          let long : c.args.file.blocks ≤ area_length (found_entry f) =
          subst (λ (s : List ℕ). c.args.file.blocks ≤ area_length (found_entry (record f { segment = s }))) (sym is.words_are)
          (area-fits c.args.file.blocks (segment_of old.image f.number).entries f.i is.first.passes) in
          absurd (omega (arith, long, w.entry.ensures.length, w.if-entry-file.true))
    ]

pub returns-in_err-create_here-clause-went : goal.returns-in_err-create_here-clause-went
returns-in_err-create_here-clause-went g c =
    let old = g.D.Device.disk c.args.device.now in
    subst (λ n. Went (KeepsFiles old) old (g.D.Device.disk c.create_here.new.device) 70 n)
    (sym (faults-handed_on c.from_residual-in_err-create_here.result DeviceFault c.from_residual-in_err-create_here.ensures.1))
    (here-went _ _ 1 old _ _ c.in_ok-found.found c.in_ok-found.ensures.found c.in_ok-found.ensures.looked
    c.in_err-create_here.ensures.failed)

pub returns-then-not-needs_split-clause-went : goal.returns-then-not-needs_split-clause-went
returns-then-not-needs_split-clause-went g c =
    here-went _ _ 0 _ _ _ c.in_ok-found.found c.in_ok-found.ensures.found c.in_ok-found.ensures.looked
    c.in_ok-create_here.ensures.created.written.went

pub returns-then-not-needs_split-clause-created : goal.returns-then-not-needs_split-clause-created
returns-then-not-needs_split-clause-created g c = λ sound.
    let old = g.D.Device.disk c.args.device.now in
    let new = g.D.Device.disk c.create_here.new.device in
    let finds = c.in_ok-found.ensures.found in
    let k = c.in_ok-found.found.number in
    let looked = c.in_ok-found.ensures.looked in
    let made = c.in_ok-create_here.ensures.created in
    let here = sym c.needs_split.ensures ∙ c.if-not-needs_split.true in
    let three : length c.args.file.name ≡ 3 = search rules in
    created-here c.args.file.name c.args.file.blocks c.args.file.date old.image new.image c.in_ok-found.found made.segment made.count
    (sound_from old.image sound.accepted) three (finds.is_first sound) (finds.no_file sound) here
    (made.written.went.size ∙ ap (λ (i : Image). length i) looked.image)
    (subst (λ (i : Image). KeepsOthers k i new.image) looked.image made.written.kept) made.written.words_are made.count_is
    made.rewritten

pub returns-in_err-first-clause-went : goal.returns-in_err-first-clause-went
returns-in_err-first-clause-went g c =
    let old = g.D.Device.disk c.args.device.now in
    let P = KeepsFiles old in
    subst (λ n. Went P old (g.D.Device.disk c.read_first.new.device) 70 n)
    (sym (faults-handed_on c.from_residual-in_err-first.result DeviceFault c.from_residual-in_err-first.ensures.1))
    (went_within P (went_looked P (looked_more c.in_ok-found.ensures.looked c.in_err-first.ensures.failed)) (omega arith))

pub returns-then-not-has_next-clause-refused : goal.returns-then-not-has_next-clause-refused
returns-then-not-has_next-clause-refused g c = λ sound.
    let old = g.D.Device.disk c.args.device.now in
    let finds = c.in_ok-found.ensures.found in
    let looked = c.in_ok-found.ensures.looked in
    let reads = c.in_ok-first.ensures.reads in
    let first_is = first-words _ _ old _ _ c.in_ok-found.found c.in_ok-first.first finds looked reads sound in
    let needs = sym c.needs_split.ensures ∙ c.if-not-needs_split.false in
    let size = c.blocks-2.ensures.count ∙ ap (λ (i : Image). length i) (reads.looked.image ∙ looked.image) in
    directory-full c.args.file.name c.args.file.blocks old.image c.in_ok-found.found c.in_ok-first.first _
    (sound_from old.image sound.accepted) (finds.is_first sound) (finds.no_file sound) needs first_is size (λ has.
    let clash : true ≡ false = sym (c.has_next.ensures.1 has) ∙ c.if-not-has_next.true in
    cc)

pub split_here-requires-clause-low : goal.split_here-requires-clause-low
split_here-requires-clause-low g c = (c.has_next.ensures.0 c.if-not-has_next.false).low

pub returns-in_err-split_here-clause-went : goal.returns-in_err-split_here-clause-went
returns-in_err-split_here-clause-went g c =
    let old = g.D.Device.disk c.args.device.now in
    subst (λ n. Went (KeepsFiles old) old (g.D.Device.disk c.split_here.new.device) 70 n)
    (sym (faults-handed_on c.from_residual-in_err-split_here.result DeviceFault c.from_residual-in_err-split_here.ensures.1))
    (split-went _ _ 1 _ old _ _ _ c.in_ok-found.found c.in_ok-first.first c.in_ok-found.ensures.found c.in_ok-found.ensures.looked
    c.in_ok-first.ensures.reads (c.has_next.ensures.0 c.if-not-has_next.false) c.in_err-split_here.ensures.failed)

pub returns-clause-went : goal.returns-clause-went
returns-clause-went g c =
    let f = c.in_ok-found.found in
    let split = c.in_ok-split_here.ensures.split in
    split-went _ _ 0 _ _ _ _ _ f c.in_ok-first.first c.in_ok-found.ensures.found c.in_ok-found.ensures.looked c.in_ok-first.ensures.reads
    (c.has_next.ensures.0 c.if-not-has_next.false)
    (three-written f.number (highest_segment c.in_ok-first.first + 1) 0 _ _ split.wrote_back split.wrote_first split.wrote_front.went)

pub returns-clause-created : goal.returns-clause-created
returns-clause-created g c = λ sound.
    let old = g.D.Device.disk c.args.device.now in
    let now = g.D.Device.disk c.read_first.new.device in
    let new = g.D.Device.disk c.split_here.new.device in
    let finds = c.in_ok-found.ensures.found in
    let looked = c.in_ok-found.ensures.looked in
    let reads = c.in_ok-first.ensures.reads in
    let next = c.has_next.ensures.0 c.if-not-has_next.false in
    let first_is = first-words _ _ old _ _ c.in_ok-found.found c.in_ok-first.first finds looked reads sound in
    let needs = sym c.needs_split.ensures ∙ c.if-not-needs_split.false in
    let three : length c.args.file.name ≡ 3 = search rules in
    created-split old now new c.in_ok-found.found c.in_ok-first.first _ c.args.file (reads.looked.image ∙ looked.image)
    (sound_from old.image sound.accepted) three (finds.is_first sound) (finds.no_file sound) needs first_is next.room refl
    c.in_ok-split_here.ensures.split
