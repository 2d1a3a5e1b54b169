-- The entry of a file is changed.
use Rattle.std.proofs.Common.{◌≡◌, ◌⊎◌, inl, inr, ℕ, ◌+◌, ◌==◌, ◌≤◌, Bool, true, false, List, [], ◌∷◌, length, get_or}
use Rattle.std.proofs.Common.{slice_index, sym, ◌∙◌, ap, subst, arith}
use Rattle.std.specs.Prelude.{slice_set}
use Rattle.std.specs.List.{All}
use Rattle.std.specs.Int.{bit_at}
use Rattle.std.proofs.lemmas.List.Edits.{length-between}
use Rattle.std.proofs.lemmas.List.Elements.{All-set}
use Rattle.std.proofs.lemmas.List.Sums.{sum_by-set}
use Rattle.std.proofs.lemmas.Option.{slice_get-get_or}
use Rattle.f11_dev.specs.Disk.{Disk}
use Rattle.f11_dev.specs.Image.{Image}
use Rattle.f11_dev.specs.Looked.{Looked}
use Rattle.f11_dev.specs.Went.{Went}
use Rattle.f11_dev.proofs.WentLemmas.{went_looked, went_more, went_weaker}
use Rattle.rt11_volume.specs.Directory.{segment_of}
use Rattle.rt11_volume.specs.Entry.{area_length, is_end, is_file_named, is_one_kind, protected_status, status, with_words}
use Rattle.rt11_volume.specs.Files.{ChangesEntry, FailsToFree, FailsToRename, HasEntryChanged, HasFile, HasNoFile, IsChangingEntry}
use Rattle.rt11_volume.specs.Operations.{with_entry}
use Rattle.rt11_volume.specs.Rewriting.Overwriting.{IsOverwriting, IsOverwritten}
use Rattle.rt11_volume.specs.Searching.Looking.{found_entry, IsFirstFound}
use Rattle.rt11_volume.specs.Segment.{Segment, entries, entry_place, entry_words, extra_bytes, segment_words}
use Rattle.rt11_volume.specs.Store.{rt_store_of}
use Rattle.rt11_volume.specs.Verifying.Verdict.{IsRtAccepted, IsSoundDisk}
use Rattle.rt11_volume.specs.declared.lookup.entry.Found.{Found}
use Rattle.rt11_volume.specs.declared.refusal.RtRefusal.{RtRefusal}
use Rattle.rt11_volume.specs.declared.refusal.RtRefusal.TheVariants.{
  Failed,
  NoSuchFile,
  EndOfFile,
  Protected,
  DuplicateName,
  NoSpace,
  DirectoryFull,
  NoMemory,
  DeviceFault,
}
use Rattle.rt11_volume.proofs.Rewriting.Entries.{entries-at, entries-few, room-place}
use Rattle.rt11_volume.proofs.Rewriting.Overwriting.{IsBetween, length-segment, differs-between, differs-rewritten, entry-between}
use Rattle.rt11_volume.proofs.Rewriting.Overwriting.{entry-changed}
use Rattle.rt11_volume.proofs.Rewriting.Overwriting.{with_words-out}
use Rattle.rt11_volume.proofs.Rewriting.Rewrite.{Rewrites, IsAsLong, rewritten-sound, rewritten-store}
use Rattle.rt11_volume.proofs.Searching.File.{file-found, found-segment}
use Rattle.rt11_volume.proofs.Verifying.Sound.{IsSoundImage, accepted_from, sound_from}

-- Some of the first four words of an entry can be replaced by these: its kind stays, and it is no end mark.
pub record AreHarmless (e : List ℕ) (from : ℕ) (ws : List ℕ) : Type 0 where
  pub few : from + length ws ≤ 4
  pub kind : is_one_kind (status (with_words e from ws)) ≡ is_one_kind (status e)
  pub mark : is_end (status (with_words e from ws)) ≡ is_end (status e)

-- a name can be replaced by another
pub name-harmless : (e name : List ℕ) → 4 ≤ length e → length name ≡ 3 → AreHarmless e 1 name
name-harmless e name long three =
    let same : status (with_words e 1 name) ≡ status e = with_words-out e 1 name 0 (omega (arith, long, three)) (inl (omega arith)) in
    record { few = omega (arith, three); kind = ap is_one_kind same; mark = ap is_end same }

-- A status word has the bits of another but that of protection.
pub record KeepsBits (w v : ℕ) : Type 0 where
  pub eight : bit_at v 8 ≡ bit_at w 8
  pub nine : bit_at v 9 ≡ bit_at w 9
  pub ten : bit_at v 10 ≡ bit_at w 10
  pub eleven : bit_at v 11 ≡ bit_at w 11

pub status-bits : (on : Bool) (w : ℕ) → KeepsBits w (protected_status on w)
status-bits true w = record { eight = omega arith; nine = omega arith; ten = omega arith; eleven = omega arith }
status-bits false w = record { eight = omega arith; nine = omega arith; ten = omega arith; eleven = omega arith }

-- a status can be replaced by that of a file that is protected, or isn't
pub status-harmless : (on : Bool) (e : List ℕ) → AreHarmless e 0 (protected_status on (status e) ∷ [])
status-harmless on e =
    let bits = status-bits on (status e) in
    record {
      few = omega arith;
      kind = λ t. bits.eight t + bits.nine t + bits.ten t == 1;
      mark = λ t. bits.eleven t == 1;
    }

module _ (name : List ℕ) (old image : Image) (found : Found) (sound : IsSoundImage old) (is : IsFirstFound (is_file_named name) old found)
    (from : ℕ) (ws : List ℕ) where
  abbrev s : List ℕ
  s = segment_words old found.number

  abbrev t : List ℕ
  t = segment_words image found.number

  abbrev es : List (List ℕ)
  es = entries (extra_bytes s) s

  abbrev e : List ℕ
  e = get_or es found.i []

  abbrev now : List ℕ
  now = entry_words (extra_bytes s) t found.i

  e-words : e ≡ entry_words (extra_bytes s) s found.i
  e-words = entries-at (extra_bytes s) s found.i [] is.first.inside

  pub e-long : 7 ≤ length e
  e-long =
      let room : entry_place (extra_bytes s) (found.i + 1) ≤ 512 = (room-place (extra_bytes s) found.i).0
      (omega (arith, is.first.inside, entries-few (extra_bytes s) s)) in
      let long = length-between s (entry_place (extra_bytes s) found.i) (entry_place (extra_bytes s) (found.i + 1))
      (omega (arith, room, length-segment old found.number)) in
      omega (arith, long, ap (λ (w : List ℕ). length w) e-words)

  module _ (safe : AreHarmless e from ws) (over : IsOverwriting found from ws old image) where
    between : IsBetween s (entry_place (extra_bytes s) found.i + from) ws t
    between =
        subst (λ (w : List ℕ). IsBetween w (entry_place (extra_bytes w) found.i + from) ws t) is.words_are (over.each is.words_are)

    -- each word of the entry is as it was or as it is to be
    pub each-word : (k : ℕ) → (slice_index now k ≡ slice_index e k) ⊎ (slice_index now k ≡ slice_index (with_words e from ws) k)
    each-word k =
        subst (λ (w : List ℕ). (slice_index now k ≡ slice_index w k) ⊎ (slice_index now k ≡ slice_index (with_words w from ws) k))
        (sym e-words)
        (entry-between (extra_bytes s) s t found.i from ws k (length-segment old found.number) (length-segment image found.number)
        is.first.inside safe.few between)

    pub now-long : length now ≡ length e
    now-long =
        let room : entry_place (extra_bytes s) (found.i + 1) ≤ 512 = (room-place (extra_bytes s) found.i).0
        (omega (arith, is.first.inside, entries-few (extra_bytes s) s)) in
        let a : ℕ = entry_place (extra_bytes s) found.i in
        let b : ℕ = entry_place (extra_bytes s) (found.i + 1) in
        length-between t a b (omega (arith, room, length-segment image found.number))
        ∙ sym (length-between s a b (omega (arith, room, length-segment old found.number))) ∙ ap (λ (w : List ℕ). length w) (sym e-words)

    rewrites : Rewrites old image found.number (slice_set es found.i now)
    rewrites = record {
      size = over.size;
      kept = over.kept;
      written = differs-rewritten s t found.i (length-segment old found.number)
          (differs-between (extra_bytes s) s t found.i from ws (length-segment old found.number) (length-segment image found.number)
          is.first.inside safe.few (subst (λ (w : List ℕ). is_end (status (with_words w from ws)) ≡ is_end (status w)) e-words safe.mark)
          between)
          is.first.inside (sound.each is.place found.number is.visited_at).ends;
    }

    kinds : All (λ x. is_one_kind (status x) ≡ true) es
    kinds i d within =
        (sound.each is.place found.number is.visited_at).one_kind i (get_or es i d) (slice_get-get_or es i d within)

    long : IsAsLong old found.number (slice_set es found.i now)
    long =
        let area : area_length now ≡ area_length e = elim (each-word 4) [
          | inl same ↦ same
          | inr put ↦ put ∙ with_words-out e from ws 4 (omega (arith, safe.few, e-long)) (inr safe.few)
        ] in
        let kind : is_one_kind (status now) ≡ true = elim (each-word 0) [
          | inl same ↦ ap is_one_kind same ∙ kinds found.i [] is.first.inside
          | inr put ↦ ap is_one_kind put ∙ safe.kind ∙ kinds found.i [] is.first.inside
        ] in
        record {
          sum = let h = sum_by-set area_length es found.i now [] is.first.inside in omega (arith, h, area);
          some = omega (arith, is.first.inside);
          one_kind = All-set (λ x. is_one_kind (status x) ≡ true) es found.i now kind kinds;
        }

    pub now-accepted : IsRtAccepted image
    now-accepted = accepted_from image (rewritten-sound old image found.number (slice_set es found.i now) sound rewrites long)

    pub now-store : rt_store_of image ≡ with_entry (rt_store_of old) is.place found.i (segment_of old found.number) now
    unfolding with_entry
    now-store = rewritten-store old image is.place found.number (slice_set es found.i now) sound is.visited_at rewrites

  -- while it is written
  pub entry-changing : (changed : List ℕ → List ℕ) → AreHarmless e from ws → changed e ≡ with_words e from ws
      → IsOverwriting found from ws old image → IsChangingEntry changed name old image
  unfolding file-found
  entry-changing changed safe same over = record {
    file = file-found name old found is;
    entry = now;
    size = now-long safe over;
    each = λ k. elim (each-word safe over k) [ inl was ↦ inl was | inr put ↦ inr (put ∙ ap (λ (w : List ℕ). slice_index w k) (sym same)) ];
    store_is = now-store safe over;
    accepted = now-accepted safe over;
  }

  -- and when it was
  pub entry-written : (changed : List ℕ → List ℕ) → AreHarmless e from ws → changed e ≡ with_words e from ws
      → IsOverwritten found from ws old image → ChangesEntry changed name old image
  unfolding file-found
  entry-written changed safe same over =
      let each : IsOverwriting found from ws old image = record {
        each = λ in_hand p. inr (ap (λ (w : List ℕ). slice_index w p) (over.words_are in_hand));
        size = over.size;
        kept = over.kept;
      } in
      let whole = subst (λ (w : List ℕ). t ≡ with_words w (entry_place (extra_bytes w) found.i + from) ws) is.words_are
      (over.words_are is.words_are) in
      let entry : now ≡ changed e = entry-changed (extra_bytes s) s t found.i from ws (length-segment old found.number) is.first.inside
      safe.few whole ∙ ap (λ (w : List ℕ). with_words w from ws) (sym e-words) ∙ sym same in
      record {
        file = file-found name old found is;
        store_is = now-store safe each
            ∙ ap (with_entry (rt_store_of old) is.place found.i (segment_of old found.number)) entry;
        accepted = now-accepted safe each;
      }

-- The words that replace those of the entry that was found make of it what is meant, and may do so.
pub record AreMeant (changed : List ℕ → List ℕ) (found : Found) (from : ℕ) (ws : List ℕ) : Type 0 where
  pub same : changed (found_entry found) ≡ with_words (found_entry found) from ws
  pub safe : 4 ≤ length (found_entry found) → AreHarmless (found_entry found) from ws

-- The entry that was found is the image's.
record IsMeant (changed : List ℕ → List ℕ) (entry : List ℕ) (from : ℕ) (ws : List ℕ) : Type 0 where
  same : changed entry ≡ with_words entry from ws
  safe : AreHarmless entry from ws

meant-here : (changed : List ℕ → List ℕ) (name : List ℕ) (image : Image) (found : Found) (from : ℕ) (ws : List ℕ) → IsSoundImage image
    → IsFirstFound (is_file_named name) image found → AreMeant changed found from ws
    → IsMeant changed (get_or (segment_of image found.number).entries found.i []) from ws
meant-here changed name image found from ws sound is meant =
    let here : found_entry found ≡ get_or (segment_of image found.number).entries found.i [] =
    ap (λ (seg : Segment). get_or seg.entries found.i []) (found-segment (is_file_named name) image found is) in
    let long = e-long name image image found sound is from ws in
    record {
      same = subst (λ (w : List ℕ). changed w ≡ with_words w from ws) here meant.same;
      safe = subst (λ (w : List ℕ). AreHarmless w from ws) here
          (meant.safe (subst (λ (w : List ℕ). 4 ≤ length w) (sym here) (omega (arith, long))));
    }

-- The moments of a disk whose file's entry was sought and is written.
pub went-changing : (changed : List ℕ → List ℕ) (name : List ℕ) (found : Found) (from : ℕ) (ws : List ℕ) {old now new : Disk}
    {most n faults : ℕ} → (IsSoundDisk old → IsFirstFound (is_file_named name) old.image found) → AreMeant changed found from ws
    → Looked old now most 0 → Went (IsOverwriting found from ws now.image) now new n faults
    → Went (HasEntryChanged changed name old) old new (most + n) faults
went-changing changed name found from ws {old = old} {now = now} is meant looked went =
    let P = HasEntryChanged changed name old in
    went_more P (went_looked P looked) (went_weaker (IsOverwriting found from ws now.image) P (λ image over sound.
    let here = meant-here changed name old.image found from ws (sound_from old.image sound.accepted) (is sound) meant in
    entry-changing name old.image image found (sound_from old.image sound.accepted) (is sound) from ws changed here.safe here.same
    (subst (λ (i : Image). IsOverwriting found from ws i image) looked.image over)) went)

-- and what stands when it was
pub changed-written : (changed : List ℕ → List ℕ) (name : List ℕ) (found : Found) (from : ℕ) (ws : List ℕ) {old now : Disk} {new : Image}
    {most : ℕ} → (IsSoundDisk old → IsFirstFound (is_file_named name) old.image found) → AreMeant changed found from ws
    → Looked old now most 0 → IsOverwritten found from ws now.image new → IsSoundDisk old → ChangesEntry changed name old.image new
changed-written changed name found from ws {old = old} {new = new} is meant looked over sound =
    let here = meant-here changed name old.image found from ws (sound_from old.image sound.accepted) (is sound) meant in
    entry-written name old.image new found (sound_from old.image sound.accepted) (is sound) from ws changed here.safe here.same
    (subst (λ (i : Image). IsOverwritten found from ws i new) looked.image over)

-- a disk of which was only read is as sound as before
pub still-sound : {old now : Disk} {most : ℕ} → Looked old now most 0 → IsSoundDisk old → IsSoundDisk now
still-sound looked sound = record {
  honest = looked.honest ∙ sound.honest;
  accepted = subst IsRtAccepted (sym looked.image) sound.accepted;
}

-- the other name is free
pub still-free : (other : List ℕ) {old now : Disk} {most : ℕ} → Looked old now most 0
    → (IsSoundDisk now → HasNoFile other (rt_store_of now.image)) → IsSoundDisk old → HasNoFile other (rt_store_of old.image)
still-free other looked free sound =
    subst (λ (i : Image). HasNoFile other (rt_store_of i)) looked.image (free (still-sound looked sound))

-- or why it isn't
pub taken-unrenamed : (name other : List ℕ) (found : Found) {old now : Disk} {most : ℕ} (r : RtRefusal)
    → (IsSoundDisk old → IsFirstFound (is_file_named name) old.image found) → Looked old now most 0 → FailsToFree r other now
    → FailsToRename r name other old
taken-unrenamed name other found Failed is looked why = tt
taken-unrenamed name other found NoSuchFile is looked why = absurd why
taken-unrenamed name other found EndOfFile is looked why = absurd why
taken-unrenamed name other found Protected is looked why = absurd why
taken-unrenamed name other found {old = old} DuplicateName is looked why = λ sound. record {
  file = file-found name old.image found (is sound);
  other_file = subst (λ (i : Image). HasFile other (rt_store_of i)) looked.image (why (still-sound looked sound));
}
taken-unrenamed name other found NoSpace is looked why = absurd why
taken-unrenamed name other found DirectoryFull is looked why = absurd why
taken-unrenamed name other found NoMemory is looked why = absurd why
taken-unrenamed name other found DeviceFault is looked why = tt
