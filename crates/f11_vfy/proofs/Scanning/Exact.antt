-- All faults, and all notes of blocks and headers.
use Rattle.std.proofs.Common.{◌≡◌, ◌≢◌, ◌≤◌, ◌<◌, ◌+◌, ◌-◌, ◌⊎◌, ◌&&◌, inl, inr, ℕ, refl, ap, sym, ◌∙◌, subst, arith, true, List, []}
use Rattle.std.proofs.Common.{length, get_or, eq-eqb, eqb-true}
use Rattle.std.specs.Int.{bit_at}
use Rattle.std.specs.List.{Contains}
use Rattle.std.proofs.lemmas.Bool.{cases_eq, leb-true, le-leb, and_parts, and_from, both_ways, false_from_ne_true}
use Rattle.f11_dev.specs.Image.{Image}
use Rattle.f11_findings.specs.Finding.{finding, IsExactly}
use Rattle.f11_findings.specs.declared.finding.Finding.{Finding}
use Rattle.f11_map.specs.HeaderBlock.{segment_number, link_of}
use Rattle.f11_index.specs.Table.{IsLive, IsFile, IsNext}
use Rattle.f11_store.specs.File.{is_marked}
use Rattle.f11_store.specs.declared.files.FileId.{FileId}
use Rattle.f11_vfy.specs.Surveying.Bits.{has, limit_of}
use Rattle.f11_vfy.specs.Chain.{IsLinkedTwice}
use Rattle.f11_volume.specs.Contents.{file_of}
use Rattle.f11_volume.specs.Faults.{IsVolumeFault, header_bad, pointer_outside, named_twice, named_free, wrong_link, linked_twice}
use Rattle.f11_volume.specs.Faults.{link_past_last, link_to_volume}
use Rattle.f11_findings.specs.Found.{Finds, FoundAmong}
use Rattle.f11_volume.specs.Notes.{IsVolumeNote, blocks_lost, header_dead, orphan, marked, not_closed, in_no_directory, names_no_file}
use Rattle.f11_volume.specs.Notes.{name_repeated, no_name, not_contiguous}
use Rattle.f11_vfy.specs.Scanning.Parts.{IsReading}
use Rattle.f11_vfy.specs.Scanning.Reading.{ShowsVolume, IsFirstNote}
use Rattle.f11_vfy.specs.Scanning.Scans.{Holds, code_of, is_lost, ends_lost, start_of}
use Rattle.f11_vfy.specs.Surveying.Slot.{KeepsSlot, KeepsValidHeader, IsBadSlot, kept_slot, unused_slot}
use Rattle.f11_vfy.specs.Surveying.Headers.{OutsideUpTo}
use Rattle.f11_volume.specs.Volume.{Volume, IsLinked}
use Rattle.f11_index.specs.Headers.{IsInFile}
use Rattle.f11_vfy.specs.declared.findings.reading.Reading.{Reading}
use Rattle.f11_vfy.specs.declared.findings.scans.Kind.{Kind}
use Rattle.f11_vfy.specs.declared.findings.scans.Kind.TheVariants.{BadHeader, WrongLink, LinkPastLast, LinkToVolume, DeadHeader, Orphan}
use Rattle.f11_vfy.specs.declared.findings.scans.Kind.TheVariants.{Marked, NotClosed}
use Rattle.f11_vfy.specs.declared.survey.slot.Slot.{Slot}
use Rattle.f11_vfy.specs.declared.survey.slot.State.TheVariants.{Live}
use Rattle.f11_vfy.proofs.Surveying.Cells.{named-some, some-named, named-twice, twice-named}
use Rattle.f11_vfy.proofs.ChainLemmas.{held_live}
use Rattle.f11_findings.proofs.FoundLemmas.{finds-both, finds-same, exactly}
use Rattle.f11_vfy.proofs.Scanning.Lost.{lost-means, run-holds, run-ends, run-begins}
use Rattle.f11_vfy.proofs.Surveying.Slots.{live-from, live-to, dead-from, dead-to, bad-from, bad-to}

-- what is found among numbers is what is said of each
among-out : (R : ℕ → ℕ → ℕ → Type 0) (P : ℕ → Type 0) (found : ℕ → Finding) (n : ℕ)
    → ((k : ℕ) → k < n → P k → R (found k).code (found k).a (found k).b)
    → (code a b : ℕ) → FoundAmong P found n code a b → R code a b
among-out R P found n sound code a b f = subst (λ (g : Finding). R g.code g.a g.b) (sym f.is) (sound f.number f.below f.holds)

-- what is found of headers
abbrev pub HeadersFound : Reading → Kind → ℕ → ℕ → ℕ → Type 0
HeadersFound r kind =
    FoundAmong (λ k. Holds kind (kept_slot r.survey.slots.items k) (has r.chains.in_file (k + 1)) (get_or r.chains.nexts.items k 0))
    (λ k. finding (code_of kind) (k + 1) 0) (length r.survey.slots.items)

module _ (v : Volume) (r : Reading) (is : ShowsVolume v r) where
  slot : ℕ → Slot
  slot k = kept_slot r.survey.slots.items k

  next : ℕ → ℕ
  next k = get_or r.chains.nexts.items k 0

  count : length r.survey.slots.items ≡ v.table.slots
  count = is.surveys.slots.count

  kept : (k : ℕ) → k < length r.survey.slots.items → KeepsSlot v.table (k + 1) (kept_slot r.survey.slots.items k)
  kept k below = is.surveys.slots.each k unused_slot (omega (arith, below, count))

  kept-at : (n : ℕ) → 1 ≤ n → n ≤ v.table.slots → KeepsSlot v.table n (kept_slot r.survey.slots.items (n - 1))
  kept-at n low high =
      subst (λ m. KeepsSlot v.table m (kept_slot r.survey.slots.items (n - 1))) (omega arith)
      (kept (n - 1) (omega (arith, low, high, count)))

  low-of : (n : ℕ) → v.table.in_use n ≡ true → 1 ≤ n
  low-of = is.fit.low

  high-of : (n : ℕ) → v.table.in_use n ≡ true → n ≤ v.table.slots
  high-of = is.fit.high

  -- one header, found by its number
  header-in : (kind : Kind) (n : ℕ) → v.table.in_use n ≡ true
      → Holds kind (kept_slot r.survey.slots.items (n - 1)) (has r.chains.in_file n) (get_or r.chains.nexts.items (n - 1) 0)
      → HeadersFound r kind (code_of kind) n 0
  header-in kind n used holds =
      let low : 1 ≤ n = low-of n used in
      let high : n ≤ v.table.slots = high-of n used in
      record {
        number = n - 1;
        below = omega (arith, low, high, count);
        holds = subst (λ m. Holds kind (kept_slot r.survey.slots.items (n - 1)) (has r.chains.in_file m)
            (get_or r.chains.nexts.items (n - 1) 0)) (omega (arith, low)) holds;
        is = ap (λ m. finding (code_of kind) m 0) (omega (arith, low));
      }

  -- a header of a file, as it is kept
  held-kept : (n : ℕ) → IsInFile v.table n → KeepsValidHeader (v.table.header n) (kept_slot r.survey.slots.items (n - 1))
  held-kept n held =
      let live : IsLive v.table n = held_live v.table held.file n held.of in
      let here : KeepsSlot v.table n (kept_slot r.survey.slots.items (n - 1)) = kept-at n (low-of n live.in_use) (high-of n live.in_use) in
      here.header (live-to v.table n _ here.state live)

  held-used : (n : ℕ) → IsInFile v.table n → v.table.in_use n ≡ true
  held-used n held = (held_live v.table held.file n held.of).in_use

  held-here : (k : ℕ) → k < length r.survey.slots.items → has r.chains.in_file (k + 1) ≡ true
      → IsInFile v.table (k + 1) × KeepsValidHeader (v.table.header (k + 1)) (kept_slot r.survey.slots.items k)
  held-here k below file =
      let held : IsInFile v.table (k + 1) = (is.chains.in_file (k + 1)).0 file in
      let here : KeepsSlot v.table (k + 1) (kept_slot r.survey.slots.items k) = kept k below in
      (held, here.header (live-to v.table (k + 1) _ here.state (held_live v.table held.file (k + 1) held.of)))

  -- one that has a link
  linked-here : (k : ℕ) → k < length r.survey.slots.items
      → (has r.chains.in_file (k + 1) ≡ true) × ((kept_slot r.survey.slots.items k).link.number ≢ 0) → IsLinked v.table (k + 1)
  linked-here k below l =
      let here = held-here k below l.0 in
      record { in_file = here.0; link = λ none. l.1 (ap (λ (i : FileId). i.number) here.1.link ∙ none) }

  linked-there : (n : ℕ) → IsLinked v.table n → (has r.chains.in_file n ≡ true) × ((kept_slot r.survey.slots.items (n - 1)).link.number ≢ 0)
  linked-there n l =
      ((is.chains.in_file n).1 l.in_file, λ none. l.link (ap (λ (i : FileId). i.number) (sym (held-kept n l.in_file).link) ∙ none))

  -- what each part of the faults finds is one
  bad-sound : (code a b : ℕ) → HeadersFound r BadHeader code a b → IsVolumeFault v code a b
  bad-sound = among-out (IsVolumeFault v) _ _ _ (λ k below holds.
      let b : IsBadSlot v.table (k + 1) = bad-from v.table (k + 1) _ (kept k below).state holds in
      header_bad (k + 1) b.in_use b.not_dead b.not_valid)

  outside-sound : (code a b : ℕ) → Contains r.survey.outside (finding code a b) → IsVolumeFault v code a b
  outside-sound code a b c = go (is.surveys.outside.no_others (finding code a b) c)
    where
      go : Contains [] (finding code a b) ⊎ OutsideUpTo v.table v.size v.table.slots code a b → IsVolumeFault v code a b
      go (inl none) = absurd (omega (arith, none.1))
      go (inr o) = subst (λ z. IsVolumeFault v z a b) (sym o.code_is) (pointer_outside a b o.run o.pointer o.outside)

  twice-sound : (code a b : ℕ)
      → FoundAmong (λ k. has r.survey.tally.twice k ≡ true) (λ k. finding 9 k 0) (limit_of r.survey.tally.twice) code a b
      → IsVolumeFault v code a b
  twice-sound =
      among-out (IsVolumeFault v) _ _ _
      (λ k below holds. named_twice k (named-twice v.table is.fit k (leb-true 2 _ (sym (is.surveys.shows.twice k) ∙ holds))))

  free-sound : (code a b : ℕ)
      → FoundAmong (λ k. (has r.survey.tally.once k && has r.free k) ≡ true) (λ k. finding 10 k 0) (limit_of r.free) code a b
      → IsVolumeFault v code a b
  free-sound = among-out (IsVolumeFault v) _ _ _ (λ k below holds.
      let both = and_parts (has r.survey.tally.once k) (has r.free k) holds in
      named_free k (named-some v.table is.fit k (leb-true 1 _ (sym (is.surveys.shows.once k) ∙ both.0))) (sym (is.free.each k) ∙ both.1))

  wrong-sound : (code a b : ℕ) → HeadersFound r WrongLink code a b → IsVolumeFault v code a b
  wrong-sound = among-out (IsVolumeFault v) _ _ _ (λ k below holds.
      let here = held-here k below holds.0.0 in
      wrong_link (k + 1) (linked-here k below holds.0) (subst (λ s. s < 255) here.1.segment holds.1.0) (λ n.
      let one : get_or r.chains.nexts.items k 0 ≡ (link_of (v.table.header (k + 1))).number =
      is.chains.nexts.all k _ (omega (arith, below, count)) n in
      let some : 1 ≤ (link_of (v.table.header (k + 1))).number = low-of _ n.to.in_use in
      let none : get_or r.chains.nexts.items k 0 ≡ 0 = holds.1.1 in
      omega (arith, one, some, none)))

  linked-sound : (code a b : ℕ)
      → FoundAmong (λ k. has r.chains.linked.twice k ≡ true) (λ k. finding 12 k 0) (limit_of r.chains.linked.twice) code a b
      → IsVolumeFault v code a b
  linked-sound = among-out (IsVolumeFault v) _ _ _ (λ k below holds.
      let l : IsLinkedTwice v.table k = (is.chains.twice k).0 holds in
      linked_twice k l.one l.other l.apart l.one_in_file l.other_in_file l.next_of_one l.next_of_other)

  past-sound : (code a b : ℕ) → HeadersFound r LinkPastLast code a b → IsVolumeFault v code a b
  past-sound = among-out (IsVolumeFault v) _ _ _ (λ k below holds.
      link_past_last (k + 1) (linked-here k below holds.0) (subst (λ s. 255 ≤ s) (held-here k below holds.0.0).1.segment holds.1))

  volume-sound : (code a b : ℕ) → HeadersFound r LinkToVolume code a b → IsVolumeFault v code a b
  volume-sound = among-out (IsVolumeFault v) _ _ _ (λ k below holds.
      link_to_volume (k + 1) (linked-here k below holds.0)
      (λ none. holds.1 (ap (λ (i : FileId). i.volume) (held-here k below holds.0.0).1.link ∙ none)))

  -- the parts of the faults
  pub FaultsFound : ℕ → ℕ → ℕ → Type 0
  FaultsFound code a b =
      ((((((HeadersFound r BadHeader code a b ⊎ Contains r.survey.outside (finding code a b))
      ⊎ FoundAmong (λ k. has r.survey.tally.twice k ≡ true) (λ k. finding 9 k 0) (limit_of r.survey.tally.twice) code a b)
      ⊎ FoundAmong (λ k. (has r.survey.tally.once k && has r.free k) ≡ true) (λ k. finding 10 k 0) (limit_of r.free) code a b)
      ⊎ HeadersFound r WrongLink code a b)
      ⊎ FoundAmong (λ k. has r.chains.linked.twice k ≡ true) (λ k. finding 12 k 0) (limit_of r.chains.linked.twice) code a b)
      ⊎ HeadersFound r LinkPastLast code a b)
      ⊎ HeadersFound r LinkToVolume code a b

  faults-sound : (code a b : ℕ) → FaultsFound code a b → IsVolumeFault v code a b
  unfolding FaultsFound
  faults-sound code a b (inl (inl (inl (inl (inl (inl (inl x))))))) = bad-sound code a b x
  faults-sound code a b (inl (inl (inl (inl (inl (inl (inr x))))))) = outside-sound code a b x
  faults-sound code a b (inl (inl (inl (inl (inl (inr x)))))) = twice-sound code a b x
  faults-sound code a b (inl (inl (inl (inl (inr x))))) = free-sound code a b x
  faults-sound code a b (inl (inl (inl (inr x)))) = wrong-sound code a b x
  faults-sound code a b (inl (inl (inr x))) = linked-sound code a b x
  faults-sound code a b (inl (inr x)) = past-sound code a b x
  faults-sound code a b (inr x) = volume-sound code a b x

  wrong-in : (n : ℕ) → IsLinked v.table n → segment_number (v.table.header n) < 255 → ¬ IsNext v.table n (link_of (v.table.header n)).number
      → HeadersFound r WrongLink 11 n 0
  wrong-in n linked early other =
      let used = held-used n linked.in_file in
      header-in WrongLink n used (
        linked-there n linked,
        (
          subst (λ s. s < 255) (sym (held-kept n linked.in_file).segment) early,
          none (cases_eq (get_or r.chains.nexts.items (n - 1) 0) 0),
        ),
      )
    where
      low : 1 ≤ n
      low = low-of n (held-used n linked.in_file)

      high : n ≤ v.table.slots
      high = high-of n (held-used n linked.in_file)

      none : (get_or r.chains.nexts.items (n - 1) 0 ≡ 0) ⊎ (get_or r.chains.nexts.items (n - 1) 0 ≢ 0)
          → get_or r.chains.nexts.items (n - 1) 0 ≡ 0
      none (inl e) = e
      none (inr some) =
          let found : IsNext v.table n (get_or r.chains.nexts.items (n - 1) 0) =
          subst (λ m. IsNext v.table m (get_or r.chains.nexts.items (n - 1) 0)) (omega (arith, low))
          (is.chains.nexts.some (n - 1) (omega (arith, low, high)) some) in
          absurd (other (subst (IsNext v.table n) (sym found.number) found))

  -- found one after another
  pub faults-found : (a b c d e f g h : List Finding) → Finds (HeadersFound r BadHeader) [] a
      → Finds (λ code x y. Contains r.survey.outside (finding code x y)) a b
      → Finds (FoundAmong (λ k. has r.survey.tally.twice k ≡ true) (λ k. finding 9 k 0) (limit_of r.survey.tally.twice)) b c
      → Finds (FoundAmong (λ k. (has r.survey.tally.once k && has r.free k) ≡ true) (λ k. finding 10 k 0) (limit_of r.free)) c d
      → Finds (HeadersFound r WrongLink) d e
      → Finds (FoundAmong (λ k. has r.chains.linked.twice k ≡ true) (λ k. finding 12 k 0) (limit_of r.chains.linked.twice)) e f
      → Finds (HeadersFound r LinkPastLast) f g → Finds (HeadersFound r LinkToVolume) g h → Finds FaultsFound [] h
  unfolding FaultsFound
  faults-found a b c d e f g h one two three four five six seven eight =
      finds-both (finds-both (finds-both (finds-both (finds-both (finds-both (finds-both one two) three) four) five) six) seven) eight

  module _ (whole : IsReading r.survey r.chains r.free) where
    faults-complete : (code a b : ℕ) → IsVolumeFault v code a b → FaultsFound code a b
    unfolding FaultsFound
    faults-complete code a b (header_bad n used not_dead not_valid) =
        let here = kept-at n (low-of n used) (high-of n used) in
        inl (inl (inl (inl (inl (inl
        (inl (header-in BadHeader n used
        (bad-to v.table n _ here.state (record { in_use = used; not_dead = not_dead; not_valid = not_valid })))))))))
    faults-complete code a b (pointer_outside n i run pointer outside) =
        inl (inl (inl (inl (inl (inl
        (inr (is.surveys.outside.added 8 n i
        (record { code_is = refl; within = high-of n pointer.live.in_use; run = run; pointer = pointer; outside = outside }))))))))
    faults-complete code a b (named_twice lbn named) =
        let two = twice-named v.table is.fit lbn named in
        let inside = is.surveys.shows.inside lbn (omega (arith, two)) in
        inl (inl (inl (inl (inl (inr
        (record {
          number = lbn;
          below = omega (arith, inside, r.survey.tally.room);
          holds = is.surveys.shows.twice lbn ∙ le-leb 2 _ two;
          is = refl;
        }))))))
    faults-complete code a b (named_free lbn named free) =
        inl (inl (inl (inl (inr (record {
          number = lbn;
          below = omega (arith, is.free.within lbn free, is.free.limit);
          holds = and_from _ _ (is.surveys.shows.once lbn ∙ le-leb 1 _ (some-named v.table is.fit lbn named)) (is.free.each lbn ∙ free);
          is = refl;
        })))))
    faults-complete code a b (wrong_link n linked early other) = inl (inl (inl (inr (wrong-in n linked early other))))
    faults-complete code a b (linked_twice n one other apart in_one in_other next_one next_other) =
        inl (inl (inr (record {
          number = n;
          below = omega (arith, high-of n next_one.to.in_use, whole.sized.linked, r.chains.linked.room, count);
          holds = (is.chains.twice n).1
              (record {
                one = one;
                other = other;
                apart = apart;
                one_in_file = in_one;
                other_in_file = in_other;
                next_of_one = next_one;
                next_of_other = next_other;
              });
          is = refl;
        })))
    faults-complete code a b (link_past_last n linked late) =
        inl (inr (header-in LinkPastLast n (held-used n linked.in_file)
        (linked-there n linked, subst (λ s. 255 ≤ s) (sym (held-kept n linked.in_file).segment) late)))
    faults-complete code a b (link_to_volume n linked elsewhere) =
        inr (header-in LinkToVolume n (held-used n linked.in_file)
        (linked-there n linked, λ none. elsewhere (ap (λ (i : FileId). i.volume) (sym (held-kept n linked.in_file).link) ∙ none)))

    pub all-faults : (found : List Finding) → Finds FaultsFound [] found → IsExactly (IsVolumeFault v) found
    all-faults found finds =
        exactly (IsVolumeFault v) found (finds-same FaultsFound (IsVolumeFault v) [] found finds faults-sound faults-complete)

  -- what each part of the notes finds is one
  lost-sound : (image : Image) (code a b : ℕ)
      → FoundAmong (λ k. ends_lost r.survey.tally.once r.free k ≡ true) (λ k. finding 1 (start_of (is_lost r.survey.tally.once r.free) k) k)
      (limit_of r.free) code a b
      → IsVolumeNote image v code a b
  lost-sound image = among-out (IsVolumeNote image v) _ _ _ (λ k below holds.
      blocks_lost _ k (run-holds v (is_lost r.survey.tally.once r.free) (lost-means v r.survey.tally r.free is.fit is.surveys.shows is.free)
      k holds))

  dead-sound : (image : Image) (code a b : ℕ) → HeadersFound r DeadHeader code a b → IsVolumeNote image v code a b
  dead-sound image =
      among-out (IsVolumeNote image v) _ _ _ (λ k below holds. header_dead (k + 1) (dead-from v.table (k + 1) _ (kept k below).state holds))

  orphan-sound : (image : Image) (code a b : ℕ) → HeadersFound r Orphan code a b → IsVolumeNote image v code a b
  orphan-sound image = among-out (IsVolumeNote image v) _ _ _ (λ k below holds.
      let here = kept k below in
      orphan (k + 1) (live-from v.table (k + 1) _ here.state holds.0) (subst (λ s. 0 < s) (here.header holds.0).segment holds.1.0)
      (λ held. both_ways (has r.chains.in_file (k + 1)) holds.1.1 ((is.chains.in_file (k + 1)).1 held)))

  file-here : (k : ℕ) → k < length r.survey.slots.items
      → ((kept_slot r.survey.slots.items k).state ≡ Live) × ((kept_slot r.survey.slots.items k).segment ≡ 0) → IsFile v.table (k + 1)
  file-here k below f =
      let here = kept k below in
      record { live = live-from v.table (k + 1) _ here.state f.0; first = sym (here.header f.0).segment ∙ f.1 }

  marked-sound : (image : Image) (code a b : ℕ) → HeadersFound r Marked code a b → IsVolumeNote image v code a b
  unfolding file_of
  marked-sound image = among-out (IsVolumeNote image v) _ _ _ (λ k below holds.
      marked (k + 1) (file-here k below holds.0)
      (eq-eqb _ _ (ap (λ c. bit_at c 15) (sym ((kept k below).header holds.0.0).characteristics_are) ∙ holds.1)))

  open-sound : (image : Image) (code a b : ℕ) → HeadersFound r NotClosed code a b → IsVolumeNote image v code a b
  unfolding file_of
  open-sound image = among-out (IsVolumeNote image v) _ _ _ (λ k below holds.
      not_closed (k + 1) (file-here k below holds.0)
      (eq-eqb _ _ (ap (λ c. bit_at c 6) (sym ((kept k below).header holds.0.0).characteristics_are) ∙ holds.1)))

  -- the parts of the notes
  pub NotesFound : ℕ → ℕ → ℕ → Type 0
  NotesFound code a b =
      (((FoundAmong (λ k. ends_lost r.survey.tally.once r.free k ≡ true)
      (λ k. finding 1 (start_of (is_lost r.survey.tally.once r.free) k) k) (limit_of r.free) code a b
      ⊎ HeadersFound r DeadHeader code a b)
      ⊎ HeadersFound r Orphan code a b)
      ⊎ HeadersFound r Marked code a b)
      ⊎ HeadersFound r NotClosed code a b

  code-among : (P : ℕ → Type 0) (found : ℕ → Finding) (n most : ℕ) → ((k : ℕ) → (found k).code ≤ most) → (code a b : ℕ)
      → FoundAmong P found n code a b → code ≤ most
  code-among P found n most low = among-out (λ code a b. code ≤ most) P found n (λ k below holds. low k)

  notes-sound : (image : Image) (code a b : ℕ) → NotesFound code a b → IsFirstNote image v code a b
  unfolding NotesFound
  notes-sound image code a b (inl (inl (inl (inl x)))) =
      record { first = code-among _ _ _ 5 (λ k. omega arith) code a b x; note = lost-sound image code a b x }
  notes-sound image code a b (inl (inl (inl (inr x)))) =
      record { first = code-among _ _ _ 5 (λ k. omega arith) code a b x; note = dead-sound image code a b x }
  notes-sound image code a b (inl (inl (inr x))) =
      record { first = code-among _ _ _ 5 (λ k. omega arith) code a b x; note = orphan-sound image code a b x }
  notes-sound image code a b (inl (inr x)) =
      record { first = code-among _ _ _ 5 (λ k. omega arith) code a b x; note = marked-sound image code a b x }
  notes-sound image code a b (inr x) =
      record { first = code-among _ _ _ 5 (λ k. omega arith) code a b x; note = open-sound image code a b x }

  file-there : (n : ℕ) → IsFile v.table n
      → ((kept_slot r.survey.slots.items (n - 1)).state ≡ Live) × ((kept_slot r.survey.slots.items (n - 1)).segment ≡ 0)
  file-there n file =
      let here = kept-at n (low-of n file.live.in_use) (high-of n file.live.in_use) in
      let alive : (kept_slot r.survey.slots.items (n - 1)).state ≡ Live = live-to v.table n _ here.state file.live in
      (alive, (here.header alive).segment ∙ file.first)

  file-kept : (n : ℕ) → IsFile v.table n → KeepsValidHeader (v.table.header n) (kept_slot r.survey.slots.items (n - 1))
  file-kept n file = (kept-at n (low-of n file.live.in_use) (high-of n file.live.in_use)).header (file-there n file).0

  notes-complete : (image : Image) (code a b : ℕ) → IsVolumeNote image v code a b → code ≤ 5 → NotesFound code a b
  unfolding NotesFound file_of
  notes-complete image code a b (blocks_lost low high run) few =
      let means = lost-means v r.survey.tally r.free is.fit is.surveys.shows is.free in
      let inside = (run.each high run.some (omega arith)).inside in
      inl (inl (inl (inl (record {
        number = high;
        below = omega (arith, inside, is.free.limit);
        holds = run-ends v (is_lost r.survey.tally.once r.free) means low high run;
        is = ap (λ a. finding 1 a high) (run-begins v (is_lost r.survey.tally.once r.free) means low high run);
      }))))
  notes-complete image code a b (header_dead n dead) few =
      inl (inl (inl (inr (header-in DeadHeader n dead.in_use
      (dead-to v.table n _ (kept-at n (low-of n dead.in_use) (high-of n dead.in_use)).state dead)))))
  notes-complete image code a b (orphan n live later none) few =
      let here = kept-at n (low-of n live.in_use) (high-of n live.in_use) in
      let alive = live-to v.table n _ here.state live in
      inl (inl (inr (header-in Orphan n live.in_use (
        alive,
        (
          subst (λ s. 0 < s) (sym (here.header alive).segment) later,
          false_from_ne_true _ (λ e. none ((is.chains.in_file n).0 e)),
        ),
      ))))
  notes-complete image code a b (marked n file is_marked) few =
      inl (inr (header-in Marked n file.live.in_use (
        file-there n file,
        ap (λ c. bit_at c 15) (file-kept n file).characteristics_are
            ∙ eqb-true _ _ is_marked,
      )))
  notes-complete image code a b (not_closed n file is_open) few =
      inr (header-in NotClosed n file.live.in_use (
        file-there n file,
        ap (λ c. bit_at c 6) (file-kept n file).characteristics_are
            ∙ eqb-true _ _ is_open,
      ))
  notes-complete image code a b (in_no_directory n file none) few = absurd (omega (arith, few))
  notes-complete image code a b (names_no_file d i bytes entry none) few = absurd (omega (arith, few))
  notes-complete image code a b (name_repeated d i bytes entry again) few = absurd (omega (arith, few))
  notes-complete image code a b (no_name d i bytes entry none) few = absurd (omega (arith, few))
  notes-complete image code a b (not_contiguous n file mark apart) few = absurd (omega (arith, few))

  -- found one after another
  pub notes-found : (a b c d e : List Finding)
      → Finds (FoundAmong (λ k. ends_lost r.survey.tally.once r.free k ≡ true)
      (λ k. finding 1 (start_of (is_lost r.survey.tally.once r.free) k) k) (limit_of r.free)) [] a
      → Finds (HeadersFound r DeadHeader) a b → Finds (HeadersFound r Orphan) b c → Finds (HeadersFound r Marked) c d
      → Finds (HeadersFound r NotClosed) d e → Finds NotesFound [] e
  unfolding NotesFound
  notes-found a b c d e one two three four five = finds-both (finds-both (finds-both (finds-both one two) three) four) five

  pub all-notes : (image : Image) (found : List Finding) → Finds NotesFound [] found → IsExactly (IsFirstNote image v) found
  all-notes image found finds =
      exactly (IsFirstNote image v) found
      (finds-same NotesFound (IsFirstNote image v) [] found finds (notes-sound image)
      (λ code a b n. notes-complete image code a b n.note n.first))
