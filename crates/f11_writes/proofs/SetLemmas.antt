-- A volume one of whose headers is set.
use Rattle.std.proofs.Common.{◌≡◌, ◌≢◌, ◌⊎◌, ℕ, ◌+◌, ◌<◌, true, false, List, Some, sym, ap, subst, ◌∙◌, inl, inr, arith}
use Rattle.std.specs.List.{slice_get}
use Rattle.std.proofs.lemmas.Bool.{cases_eq}
use Rattle.f11_volume.specs.header.Fields.{file_sequence}
use Rattle.f11_volume.specs.header.Header.{IsHeader, IsDead}
use Rattle.f11_volume.specs.store.declared.files.FileId.{FileId}
use Rattle.f11_volume.specs.map.HeaderBlock.{segment_number, link_of, blocks_named}
use Rattle.f11_index.specs.Headers.{IsInFile}
use Rattle.f11_index.specs.Table.{Table, IsLive, IsFile, IsNext, IsHeaderOf, first, next}
use Rattle.f11_index.proofs.ChainLemmas.{live_of-header}
use Rattle.f11_index.proofs.HeadersLemmas.{link_number}
use Rattle.f11_volume.specs.Sound.{LinksOn, IsSoundVolume}
use Rattle.f11_volume.specs.Volume.{Volume, IsCell, IsLinked}
use Rattle.f11_writes.proofs.OtherSlotLemmas.{nowhere, same-now, live-was}
use Rattle.f11_writes.specs.Volumes.{LinksAnew, MayLink, links_to_none, links_as_before, links_anew, MayBecome, HasHeader}

module _ (old new : Volume) (n : ℕ) (block : List ℕ) (o : IsSoundVolume old) (may : MayBecome old n block) (s : HasHeader n block old new)
  where
    abbrev t : Table
    t = old.table

    abbrev u : Table
    u = new.table

    here : IsLive u n
    here = record { in_use = s.in_use; valid = subst (λ (b : List ℕ). IsHeader b n) (sym s.header) may.valid }

    -- the other headers
    as-was : (m : ℕ) → m ≢ n → t.in_use m ≡ true → u.header m ≡ t.header m
    as-was m other used = s.others.header m other used

    live-is : (m : ℕ) → IsLive t m → IsLive u m
    live-is m live = elim (cases_eq m n) [
      | inl is ↦ subst (IsLive u) (sym is) here
      | inr other ↦ record {
        in_use = s.others.in_use m other ∙ live.in_use;
        valid = subst (λ (b : List ℕ). IsHeader b m) (sym (as-was m other live.in_use)) live.valid;
      }
    ]

    cell-was : (m place lbn : ℕ) → m ≢ n → IsCell u m place lbn → IsCell t m place lbn
    cell-was m place lbn other cell = record {
      live = live-was t u n s.others m other cell.live;
      names = ap (λ (b : List ℕ). slice_get (blocks_named b) place) (sym (same-now t u n s.others m other cell.live.in_use)) ∙ cell.names;
    }

    cell-here : (m place lbn : ℕ) → m ≡ n → IsCell u m place lbn → slice_get (blocks_named block) place ≡ Some lbn
    cell-here m place lbn is cell = ap (λ (b : List ℕ). slice_get (blocks_named b) place) (sym (ap u.header is ∙ s.header)) ∙ cell.names

    -- a live header has the sequence number and the segment that it had
    same-sequence : (m : ℕ) → IsLive t m → file_sequence (u.header m) ≡ file_sequence (t.header m)
    same-sequence m live = elim (cases_eq m n) [
      | inl is ↦
          ap (λ (k : ℕ). file_sequence (u.header k)) is ∙ ap file_sequence s.header ∙ (may.good (subst (IsLive t) is live)).sequence
          ∙ ap (λ (k : ℕ). file_sequence (t.header k)) (sym is)
      | inr other ↦ ap file_sequence (as-was m other live.in_use)
    ]

    same-segment : (m : ℕ) → IsLive t m → segment_number (u.header m) ≡ segment_number (t.header m)
    same-segment m live = elim (cases_eq m n) [
      | inl is ↦
          ap (λ (k : ℕ). segment_number (u.header k)) is ∙ ap segment_number s.header ∙ (may.good (subst (IsLive t) is live)).segment
          ∙ ap (λ (k : ℕ). segment_number (t.header k)) (sym is)
      | inr other ↦ ap segment_number (as-was m other live.in_use)
    ]

    -- a next header stays where the link does
    next-is : (a b : ℕ) → link_of (u.header a) ≡ link_of (t.header a) → IsNext t a b → IsNext u a b
    next-is a b link goes = record {
      from = live-is a goes.from;
      to = live-is b goes.to;
      number = ap (λ (i : FileId). i.number) link ∙ goes.number;
      sequence = ap (λ (i : FileId). i.sequence) link ∙ goes.sequence ∙ sym (same-sequence b goes.to);
      segment = same-segment b goes.to ∙ goes.segment ∙ ap (λ (k : ℕ). k + 1) (sym (same-segment a goes.from));
    }

    -- and was one before
    next-was : (a b : ℕ) → IsInFile t a → link_of (u.header a) ≡ link_of (t.header a) → IsNext u a b → IsNext t a b
    next-was a b in_file link goes =
        let number : link_number u a ≡ link_number t a = ap (λ (i : FileId). i.number) link in
        let on = o.links a (record { in_file = in_file; link = λ zero_is. nowhere (number ∙ zero_is) goes }) in
        subst (IsNext t a) (sym number ∙ goes.number) on.next

    other-next-was : (a b : ℕ) → a ≢ n → IsInFile t a → IsNext u a b → IsNext t a b
    other-next-was a b other in_file goes = next-was a b in_file (ap link_of (same-now t u n s.others a other goes.from.in_use)) goes

    link-here : link_of (u.header n) ≡ link_of block
    link-here = ap link_of s.header

    number-here : link_number u n ≡ (link_of block).number
    number-here = ap (λ (i : FileId). i.number) link-here

    -- no header is its own next
    not-self : (a : ℕ) → IsNext u a a → ⊥
    not-self a goes = omega (arith, goes.segment)

    -- a header of a file, another than n, or n where it was live, was in one, or has no link
    in-file-was : (f : ℕ) {a : ℕ} → IsHeaderOf u f a → (a ≢ n) ⊎ IsLive t n → IsInFile t a ⊎ (link_number u a ≡ 0)
    in-file-was f (first file) which = inl (record { file = f; of = first (was which) })
      where
        was-other : f ≢ n → IsFile t f
        was-other other =
            record {
              live = live-was t u n s.others f other file.live;
              first = ap segment_number (sym (same-now t u n s.others f other file.live.in_use)) ∙ file.first;
            }

        was-live : IsLive t f → IsFile t f
        was-live live = record { live = live; first = sym (same-segment f live) ∙ file.first }

        was : (f ≢ n) ⊎ IsLive t n → IsFile t f
        was (inl other) = was-other other
        was (inr live) = elim (cases_eq f n) [
          | inl is ↦ was-live (subst (IsLive t) (sym is) live)
          | inr other ↦ was-other other
        ]
    in-file-was f (next {n = b} {m = a} of goes) which = go (cases_eq b n) (in-file-was f of)
      where
        -- behind header n
        behind : ((n ≢ n) ⊎ IsLive t n → IsInFile t n ⊎ (link_number u n ≡ 0)) → MayLink old n block → IsNext u n a
            → IsInFile t a ⊎ (link_number u a ≡ 0)
        behind was (links_to_none zero_is) on = absurd (nowhere (number-here ∙ zero_is) on)
        behind was (links_as_before live link) on = elim (was (inr live)) [
          | inl in_file ↦ inl (record { file = in_file.file; of = next in_file.of (next-was n a in_file (link-here ∙ link) on) })
          | inr zero_is ↦ absurd (nowhere zero_is on)
        ]
        behind was (links_anew links) on =
            let other : a ≢ n = λ is. not-self n (subst (IsNext u n) is on) in
            let to : (link_of block).number ≡ a = sym number-here ∙ on.number in
            inr (ap (λ (h : List ℕ). (link_of h).number) (same-now t u n s.others a other on.to.in_use)
            ∙ subst (λ (k : ℕ). link_number t k ≡ 0) to links.no_link)

        -- behind another
        on-from : b ≢ n → IsInFile t b ⊎ (link_number u b ≡ 0) → IsInFile t a ⊎ (link_number u a ≡ 0)
        on-from away (inl was) = inl (record { file = was.file; of = next was.of (other-next-was b a away was goes) })
        on-from away (inr zero_is) = absurd (nowhere zero_is goes)

        go : (b ≡ n) ⊎ (b ≡ n → ⊥) → ((b ≢ n) ⊎ IsLive t n → IsInFile t b ⊎ (link_number u b ≡ 0)) → IsInFile t a ⊎ (link_number u a ≡ 0)
        go (inl is) was =
            behind (subst (λ (k : ℕ). (k ≢ n) ⊎ IsLive t n → IsInFile t k ⊎ (link_number u k ≡ 0)) is was) may.link
            (subst (λ (k : ℕ). IsNext u k a) is goes)
        go (inr away) was = on-from away (was (inl away))

    -- header n was in a file where it was live, and is in one now and has a link
    own-was : IsLive t n → IsInFile u n → link_number u n ≢ 0 → IsInFile t n
    own-was live in_file some = elim (in-file-was in_file.file in_file.of (inr live)) [
      | inl was ↦ was
      | inr zero_is ↦ absurd (some zero_is)
    ]

    headers : (m : ℕ) → u.in_use m ≡ true → IsDead (u.header m) ⊎ IsHeader (u.header m) m
    headers m used = elim (cases_eq m n) [
      | inl is ↦ inr (subst (λ (k : ℕ). IsHeader (u.header k) k) (sym is) here.valid)
      | inr other ↦ subst (λ (b : List ℕ). IsDead b ⊎ IsHeader b m) (sym (same-now t u n s.others m other used))
          (o.headers m (sym (s.others.in_use m other) ∙ used))
    ]

    inside : (m place lbn : ℕ) → IsCell u m place lbn → lbn < new.size
    inside m place lbn cell = subst (λ (k : ℕ). lbn < k) (sym s.size) (elim (cases_eq m n) [
      | inl is ↦ may.names.inside place lbn (cell-here m place lbn is cell)
      | inr other ↦ o.inside m place lbn (cell-was m place lbn other cell)
    ])

    apart : (a place b other lbn : ℕ) → IsCell u a place lbn → IsCell u b other lbn → (a ≡ b) × (place ≡ other)
    apart a place b other lbn one two = go (cases_eq a n) (cases_eq b n)
      where
        go : (a ≡ n) ⊎ (a ≡ n → ⊥) → (b ≡ n) ⊎ (b ≡ n → ⊥) → (a ≡ b) × (place ≡ other)
        go (inl is) (inl also) =
            (is ∙ sym also, may.names.apart place other lbn (cell-here a place lbn is one) (cell-here b other lbn also two))
        go (inl is) (inr away) =
            absurd (may.names.alone place lbn b other (cell-here a place lbn is one) away (cell-was b other lbn away two))
        go (inr away) (inl also) =
            absurd (may.names.alone other lbn a place (cell-here b other lbn also two) away (cell-was a place lbn away one))
        go (inr away) (inr too) = o.apart a place b other lbn (cell-was a place lbn away one) (cell-was b other lbn too two)

    taken : (m place lbn : ℕ) → IsCell u m place lbn → new.free lbn ≡ false
    taken m place lbn cell = s.free lbn ∙ elim (cases_eq m n) [
      | inl is ↦ may.names.used place lbn (cell-here m place lbn is cell)
      | inr other ↦ o.taken m place lbn (cell-was m place lbn other cell)
    ]

    -- a header that keeps its link
    keeps-link : (a : ℕ) → IsInFile t a → link_of (u.header a) ≡ link_of (t.header a) → link_number u a ≢ 0 → LinksOn u a
    keeps-link a was link some =
        let number : link_number u a ≡ link_number t a = ap (λ (i : FileId). i.number) link in
        let on = o.links a (record { in_file = was; link = λ zero_is. some (number ∙ zero_is) }) in
        record {
          not_last = subst (λ (k : ℕ). k < 255) (sym (same-segment a (live_of-header was.of))) on.not_last;
          here = ap (λ (i : FileId). i.volume) link ∙ on.here;
          next = subst (IsNext u a) (sym number) (next-is a (link_number t a) link on.next);
        }

    -- header n with a new link
    links-anew : LinksAnew old block → LinksOn u n
    links-anew l =
        let to = (link_of block).number in
        record {
          not_last = subst (λ (b : List ℕ). segment_number b < 255) (sym s.header) l.not_last;
          here = ap (λ (i : FileId). i.volume) link-here ∙ l.here;
          next = subst (IsNext u n) (sym number-here) (record {
            from = here;
            to = live-is to l.to;
            number = number-here;
            sequence = ap (λ (i : FileId). i.sequence) link-here ∙ l.sequence ∙ sym (same-sequence to l.to);
            segment = same-segment to l.to ∙ l.segment ∙ ap (λ (b : List ℕ). segment_number b + 1) (sym s.header);
          });
        }

    links-here : IsInFile u n → MayLink old n block → link_number u n ≢ 0 → LinksOn u n
    links-here in_file (links_to_none zero_is) some = absurd (some (number-here ∙ zero_is))
    links-here in_file (links_as_before live link) some = keeps-link n (own-was live in_file some) (link-here ∙ link) some
    links-here in_file (links_anew l) some = links-anew l

    links : (a : ℕ) → IsLinked u a → LinksOn u a
    links a linked = elim (cases_eq a n) [
      | inl is ↦ subst (LinksOn u) (sym is)
          (links-here (subst (IsInFile u) is linked.in_file) may.link (subst (λ (k : ℕ). link_number u k ≢ 0) is linked.link))
      | inr other ↦ elim (in-file-was linked.in_file.file linked.in_file.of (inl other)) [
        | inl was ↦ keeps-link a was (ap link_of (as-was a other (live_of-header was.of).in_use)) linked.link
        | inr zero_is ↦ absurd (linked.link zero_is)
      ]
    ]

    -- no other header has the next of n
    one : (b m : ℕ) → IsInFile u n → b ≢ n → IsInFile u b → IsNext u n m → IsNext u b m → ⊥
    one b m own away in_file goes comes = go (in-file-was in_file.file in_file.of (inl away))
      where
        by : IsInFile t b → MayLink old n block → ⊥
        by was (links_to_none zero_is) = nowhere (number-here ∙ zero_is) goes
        by was (links_as_before live link) =
            let also : IsInFile t n = own-was live own (λ zero_is. nowhere zero_is goes) in
            away (o.once m b n was also (other-next-was b m away was comes) (next-was n m also (link-here ∙ link) goes))
        by was (links_anew l) = l.no_other b was (subst (IsNext t b) (sym goes.number ∙ number-here) (other-next-was b m away was comes))

        go : IsInFile t b ⊎ (link_number u b ≡ 0) → ⊥
        go (inl was) = by was may.link
        go (inr zero_is) = nowhere zero_is comes

    once : (m a b : ℕ) → IsInFile u a → IsInFile u b → IsNext u a m → IsNext u b m → a ≡ b
    once m a b in_file also goes comes = go (cases_eq a n) (cases_eq b n)
      where
        both : a ≢ n → b ≢ n → IsInFile t a ⊎ (link_number u a ≡ 0) → IsInFile t b ⊎ (link_number u b ≡ 0) → a ≡ b
        both away too (inl was) (inl were) = o.once m a b was were (other-next-was a m away was goes) (other-next-was b m too were comes)
        both away too (inl was) (inr zero_is) = absurd (nowhere zero_is comes)
        both away too (inr zero_is) were = absurd (nowhere zero_is goes)

        go : (a ≡ n) ⊎ (a ≡ n → ⊥) → (b ≡ n) ⊎ (b ≡ n → ⊥) → a ≡ b
        go (inl is) (inl same_too) = is ∙ sym same_too
        go (inl is) (inr too) = absurd (one b m (subst (IsInFile u) is in_file) too also (subst (λ (k : ℕ). IsNext u k m) is goes) comes)
        go (inr away) (inl is) = absurd (one a m (subst (IsInFile u) is also) away in_file (subst (λ (k : ℕ). IsNext u k m) is comes) goes)
        go (inr away) (inr too) = both away too (in-file-was in_file.file in_file.of (inl away)) (in-file-was also.file also.of (inl too))

    pub set-sound : IsSoundVolume new
    set-sound = record { headers = headers; inside = inside; apart = apart; taken = taken; links = links; once = once }
