-- One pass over the blocks of a file, a step at a time.
use Rattle.std.proofs.Common.{◌≡◌, ℕ, suc, ◌+◌, ◌-◌, ◌*◌, ◌%◌, ◌<◌, ◌≤◌, ◌||◌, Bool, false, if◌then◌else◌, List, [], ◌∷◌, ◌++◌, length}
use Rattle.std.proofs.Common.{take, replicate, All, Some, refl, sym, ap, ◌∙◌, subst, append_assoc, append-nil, length-append, arith}
use Rattle.std.specs.List.{concat, slice_get}
use Rattle.std.proofs.Math.Nat.{mul-add-mod_self_left}
use Rattle.std.proofs.Math.Seq.{take-suc}
use Rattle.std.proofs.lemmas.List.{length-replicate}
use Rattle.std.proofs.lemmas.Option.{get_or_from_slice_get, slice_get_within}
use Rattle.std.proofs.lemmas.List.Elements.{All-append, All-cons, All-nil}
use Rattle.std.proofs.lemmas.List.Folds.{concat-append}
use Rattle.f11_dev.specs.Disk.{Disk}
use Rattle.f11_dev.specs.declared.device.Device.{Ghosts}
use Rattle.rt11_volume.specs.Calls.{has_failed}
use Rattle.rt11_volume.specs.Files.{is_fault}
use Rattle.rt11_volume.specs.Store.{rt_store_of}
use Rattle.rt11_volume.specs.Verifying.Verdict.{IsRtAccepted, IsSoundDisk}
use Rattle.rt11_volume.specs.declared.refusal.RtRefusal.{RtRefusal}
use Rattle.rt11_volume.specs.declared.volume.RtAccepted.{RtAccepted}
use Rattle.f11_store.specs.declared.refusals.Refusal.{Refusal}
use Rattle.f11_making.specs.Asking.{Denies, Granted, FilesService, Who, writes, writes_of}
use Rattle.f11_flx.specs.Filling.{Out, pending}
use Rattle.f11_flx.specs.Lines.{in_whole_blocks, lines_of, without_zeros}
use Rattle.f11_flx.specs.Passes.{BeginsLines, EndsLines, FailsToEnd, FailsToFlush, FailsToReadLines, Flushes, ReadsLines, StopsAtEnd}
use Rattle.f11_flx.proofs.RtFiles.FrontLemmas.{front-same}
use Rattle.f11_flx.specs.RtSource.{FailsToReadPlace, HasContents, Looks, ReadsRtBlocks, ReadsPlace, StopsReadingRt}
use Rattle.f11_flx.specs.Spelled.{variable_records}
use Rattle.f11_flx.specs.Target.{rt_disk, rt_store}
use Rattle.f11_flx.specs.ToRecords.{EndsText, bytes_to_come, gives, longest_given}
use Rattle.f11_flx.specs.Writing.{FailsToWritePieces, MeetsLongLine, Onward, StopsAtPiece, WritesPieces, WritesNext, out_bytes}
use Rattle.f11_flx.specs.declared.refusal.FlxRefusal.{FlxRefusal}
use Rattle.f11_flx.specs.declared.refusal.FlxRefusal.TheVariants.{BadRecord, Files, LineTooLong, Rt, Unread}
use Rattle.f11_flx.specs.declared.to_records.ToRecords.{ToRecords}
use Rattle.f11_making.proofs.AskingLemmas.{granted-append, writes-append}
use Rattle.f11_flx.proofs.Texts.EndLemmas.{records_end}
use Rattle.f11_flx.proofs.Texts.PourLemmas.{whole-length}
use Rattle.f11_flx.proofs.Texts.SizeLemmas.{records_are_few}
use Rattle.f11_flx.proofs.SmallLemmas.{or-false}
use Rattle.f11_flx.proofs.Texts.WritingLemmas.{is-whole, onward-then, writes-start}

-- what is taken of a list, and the element behind it
pub take-one : (n : ℕ) (xs : List (List ℕ)) (x : List ℕ) → slice_get xs n ≡ Some x → take (n + 1) xs ≡ take n xs ++ x ∷ []
take-one n xs x is =
    let next : n + 1 ≡ suc n = omega arith in
    ap (λ k. take k xs) next ∙ take-suc xs n [] (slice_get_within xs n x is)
    ∙ ap (λ y. take n xs ++ y ∷ []) (get_or_from_slice_get xs n x [] is)

module _ {E : Type 0} {met : Ghosts E} (disk : E → Disk) where
  pub looks-none : (v : RtAccepted E met) → Looks disk false v v
  looks-none v = record {
    fares = record {
      failures = omega arith;
      quiet = λ fault. absurd (cc);
      honest = refl;
      next = sym (or-false (has_failed v));
      front = λ s. front-same (rt_disk disk v) (rt_disk disk v) refl refl;
    };
    image = refl;
    history = refl;
  }

  pub looks-then : (fault : Bool) (a b c : RtAccepted E met) → Looks disk false a b → Looks disk fault b c → Looks disk fault a c
  looks-then fault a b c h k = record {
    fares = record {
      failures = k.fares.failures ∙ ap (λ n. n + (if fault then 1 else 0)) (h.fares.failures ∙ omega arith);
      quiet = k.fares.quiet;
      honest = k.fares.honest ∙ h.fares.honest;
      next = k.fares.next ∙ ap (λ f. f || fault) (h.fares.next ∙ or-false (has_failed a));
      front = λ s. front-same (rt_disk disk a) (rt_disk disk c) (k.image ∙ h.image) (k.history ∙ h.history);
    };
    image = k.image ∙ h.image;
    history = k.history ∙ h.history;
  }

  pub stays-alive : (a b : RtAccepted E met) → Looks disk false a b → has_failed a ≡ false → has_failed b ≡ false
  stays-alive a b h alive = h.fares.next ∙ or-false (has_failed a) ∙ alive

  pub stays-sound : (fault : Bool) (a b : RtAccepted E met) → Looks disk fault a b → IsSoundDisk (rt_disk disk a)
      → IsSoundDisk (rt_disk disk b)
  stays-sound fault a b h s = record { honest = h.fares.honest ∙ s.honest; accepted = subst IsRtAccepted (sym h.image) s.accepted }

  pub same-store : (fault : Bool) (a b : RtAccepted E met) → Looks disk fault a b → rt_store disk b ≡ rt_store disk a
  same-store fault a b h = ap rt_store_of h.image

  pub same-contents : (name : List ℕ) (contents : List (List ℕ)) (fault : Bool) (a b : RtAccepted E met) → Looks disk fault a b
      → HasContents name contents (rt_store disk a) →
      HasContents name contents (rt_store disk b)
  same-contents name contents fault a b h c = subst (λ t. HasContents name contents t) (sym (same-store fault a b h)) c

  pub reads-none : (name : List ℕ) (v : RtAccepted E met) → ReadsRtBlocks disk name [] v v
  reads-none name v = record { looks = looks-none v; whole = All-nil is-whole; are = λ s contents h. refl }

  pub reads-more : (name : List ℕ) (blocks : List (List ℕ)) (place : ℕ) (block : List ℕ) (a b c : RtAccepted E met)
      → ReadsRtBlocks disk name blocks a b → ReadsPlace disk name place block b c →
      place ≡ length blocks → ReadsRtBlocks disk name (blocks ++ block ∷ []) a c
  reads-more name blocks place block a b c h k at = record {
    looks = looks-then false a b c h.looks k.looks;
    whole = All-append is-whole blocks (block ∷ []) h.whole (All-cons is-whole block [] k.size (All-nil is-whole));
    are = λ s contents has.
        let next = k.is (stays-sound false a b h.looks s) contents (same-contents name contents false a b h.looks has) in
        ap (λ n. take n contents) (length-append blocks (block ∷ []) ∙ ap (λ n. n + 1) (sym at)) ∙ take-one place contents block next
        ∙ ap (λ n. take n contents ++ block ∷ []) at ∙ ap (λ l. l ++ block ∷ []) (h.are s contents has);
  }

  pub stops-reading : (name : List ℕ) (blocks : List (List ℕ)) (place many : ℕ) (e : RtRefusal) (a b c : RtAccepted E met)
      → ReadsRtBlocks disk name blocks a b → FailsToReadPlace disk name place e b c →
      place < many → StopsReadingRt disk name many e a c
  stops-reading name blocks place many e a b c h k low = record {
    looks = looks-then (is_fault e) a b c h.looks k.looks;
    alive = λ alive. k.alive (stays-alive a b h.looks alive);
    few = λ alive none s contents has.
        let past = k.past (stays-alive a b h.looks alive) none (stays-sound false a b h.looks s) contents
        (same-contents name contents false a b h.looks has) in
        omega (arith, past, low);
  }

-- blocks and one more
pub concat-one : (blocks : List (List ℕ)) (block : List ℕ) → concat (blocks ++ block ∷ []) ≡ concat blocks ++ block
concat-one blocks block = concat-append blocks (block ∷ []) ∙ ap (λ l. concat blocks ++ l) (append-nil block)

-- a text and then more of it
module _ {V : Type 0} (S : FilesService V) (who : Who) (lun : ℕ) where
  pub granted-writes : (place : ℕ) (xs ys : List (List ℕ)) (u v w : V) → Granted S who (writes_of lun place xs) u v
      → Granted S who (writes_of lun (place + length xs) ys) v w → Granted S who (writes_of lun place (xs ++ ys)) u w
  granted-writes place xs ys u v w h k =
      subst (λ l. Granted S who l u w) (sym (writes-append lun place xs ys))
      (granted-append S who (writes_of lun place xs) (writes_of lun (place + length xs) ys) u v w h k)

  pub onward-of : (s t : ToRecords) (a b more : List ℕ) (o p : Out) (pieces : List (List ℕ))
      → ((x : List ℕ) → Onward s t (a ++ x) x o p pieces) → Onward s t ((a ++ b) ++ more) (b ++ more) o p pieces
  onward-of s t a b more o p pieces h = subst (λ x. Onward s t x (b ++ more) o p pieces) (sym (append_assoc a b more)) (h (b ++ more))

  pub writes-then : (s t u : ToRecords) (a b : List ℕ) (o p q : Out) (v w x : V) → WritesPieces S who lun s t a [] o p v w
      → WritesPieces S who lun t u b [] p q w x → WritesPieces S who lun s u (a ++ b) [] o q v x
  writes-then s t u a b o p q v w x h k = record {
    pieces = h.pieces ++ k.pieces;
    granted = granted-writes o.place h.pieces k.pieces v w x h.granted
        (subst (λ n. Granted S who (writes_of lun n k.pieces) w x) h.place k.granted);
    place = omega (arith, h.place, k.place, length-append h.pieces k.pieces);
    whole = All-append is-whole h.pieces k.pieces h.whole k.whole;
    onward = λ more. onward-then s t u ((a ++ b) ++ more) (b ++ more) more o p q h.pieces k.pieces
        (onward-of s t a b more o p h.pieces h.onward) (k.onward more);
    unended = omega (arith, h.unended, k.unended, length-append {A = ℕ} a b);
  }

  pub writes-then-stops : (s t : ToRecords) (a b : List ℕ) (o p : Out) (e : Refusal) (v w x : V) → WritesPieces S who lun s t a [] o p v w
      → StopsAtPiece S who lun t b p e w x → StopsAtPiece S who lun s (a ++ b) o e v x
  writes-then-stops s t a b o p e v w x h k = record {
    pieces = h.pieces ++ k.pieces;
    last = k.last;
    between = k.between;
    granted = granted-writes o.place h.pieces k.pieces v w k.between h.granted
        (subst (λ n. Granted S who (writes_of lun n k.pieces) w k.between) h.place k.granted);
    denied = subst (λ n. Denies S who (writes lun (suc n) k.last) e k.between x) (omega (arith, h.place, length-append h.pieces k.pieces))
        k.denied;
    whole = subst (All is-whole) (sym (append_assoc h.pieces k.pieces (k.last ∷ [])))
        (All-append is-whole h.pieces (k.pieces ++ k.last ∷ []) h.whole k.whole);
    begins = λ more.
        let on = (onward-of s t a b more o p h.pieces h.onward).bytes in
        let rest = k.begins more in (
          rest.0,
          on ∙ ap (λ l. concat h.pieces ++ l) rest.1 ∙ sym (append_assoc (concat h.pieces) (concat (k.pieces ++ k.last ∷ [])) rest.0)
              ∙ ap (λ l. l ++ rest.0) (sym (concat-append h.pieces (k.pieces ++ k.last ∷ []))
              ∙ ap concat (sym (append_assoc h.pieces k.pieces (k.last ∷ [])))),
        );
  }

  pub writes-then-long : (s t : ToRecords) (a b : List ℕ) (o p : Out) (v w x : V) → WritesPieces S who lun s t a [] o p v w
      → MeetsLongLine S who lun t b p w x → MeetsLongLine S who lun s (a ++ b) o v x
  writes-then-long s t a b o p v w x h k = record {
    pieces = h.pieces ++ k.pieces;
    granted = granted-writes o.place h.pieces k.pieces v w x h.granted
        (subst (λ n. Granted S who (writes_of lun n k.pieces) w x) h.place k.granted);
    long = λ more. sym (onward-of s t a b more o p h.pieces h.onward).long ∙ k.long more;
  }

  -- the bytes that are to come of a text, whose beginning was read
  pub to-come : (s t : ToRecords) (a b : List ℕ) (o p : Out) (v w : V) → BeginsLines s → o.to ≡ 0
      → (h : WritesPieces S who lun s t a [] o p v w) →
      variable_records (lines_of (without_zeros (a ++ b))) ≡ concat h.pieces ++ out_bytes p t b
  to-come s t a b o p v w begins empty h =
      let on = (onward-of s t a b [] o p h.pieces h.onward).bytes in
      let none : pending o ≡ [] = ap (λ n. take n o.block) empty in
      sym (ap (λ l. l ++ bytes_to_come s (a ++ b)) none ∙ begins.bytes (a ++ b)) ∙ ap (λ l. out_bytes o s l) (sym (append-nil (a ++ b)))
      ∙ on ∙ ap (λ l. concat h.pieces ++ out_bytes p t l) (append-nil b)

  pub few-to-come : (s t : ToRecords) (a b : List ℕ) (o p : Out) (v w : V) → BeginsLines s → o.to ≡ 0 → o.place ≡ 0
      → WritesPieces S who lun s t a [] o p v w →
      512 * p.place + length (out_bytes p t b) ≤ 2 * length (a ++ b) + 2
  few-to-come s t a b o p v w begins empty first h =
      let all = ap (λ (l : List ℕ). length l) (to-come s t a b o p v w begins empty h) in
      omega (
        arith,
        all,
        records_are_few (a ++ b),
        length-append {A = ℕ} (concat h.pieces) (out_bytes p t b),
        whole-length h.pieces h.whole,
        h.place,
        first,
      )

module _ {V E : Type 0} {met : Ghosts E} (S : FilesService V) (disk : E → Disk) (who : Who) (lun : ℕ) (name : List ℕ) where
  pub lines-none : (s : ToRecords) (o : Out) (rt : RtAccepted E met) (v : V) → ReadsLines S disk who lun name 0 s s o o rt rt v v
  lines-none s o rt v = record {
    blocks = [];
    reads = reads-none disk name rt;
    count = refl;
    writes = writes-start S who lun s [] o v;
  }

  pub lines-more : (many : ℕ) (block : List ℕ) (s t u : ToRecords) (o p q : Out) (a b c : RtAccepted E met) (v w x : V)
      → ReadsLines S disk who lun name many s t o p a b v w → ReadsPlace disk name many block b c →
      WritesPieces S who lun t u block [] p q w x → ReadsLines S disk who lun name (many + 1) s u o q a c v x
  lines-more many block s t u o p q a b c v w x h r k = record {
    blocks = h.blocks ++ block ∷ [];
    reads = reads-more disk name h.blocks many block a b c h.reads r (sym h.count);
    count = length-append h.blocks (block ∷ []) ∙ ap (λ n. n + 1) h.count;
    writes = subst (λ l. WritesPieces S who lun s u l [] o q v x) (sym (concat-one h.blocks block))
        (writes-then S who lun s t u (concat h.blocks) block o p q v w x h.writes k);
  }

  pub lines-unread : (place many : ℕ) (e : RtRefusal) (s t : ToRecords) (o p : Out) (a b c : RtAccepted E met) (v w : V) → o.place ≡ 0
      → ReadsLines S disk who lun name place s t o p a b v w →
      FailsToReadPlace disk name place e b c → place < many → FailsToReadLines S disk who lun name many s o (Rt e) a c v w
  lines-unread place many e s t o p a b c v w first h r low = record {
    pieces = h.writes.pieces;
    granted = subst (λ n. Granted S who (writes_of lun n h.writes.pieces) v w) first h.writes.granted;
    stops = stops-reading disk name h.blocks place many e a b c h.reads r low;
  }

  pub lines-fail : (f : FlxRefusal) (place many : ℕ) (block : List ℕ) (s t : ToRecords) (o p : Out) (a b c : RtAccepted E met) (v w x : V)
      → ReadsLines S disk who lun name place s t o p a b v w → ReadsPlace disk name place block b c →
      FailsToWritePieces S who lun t block p f w x → place < many → FailsToReadLines S disk who lun name many s o f a c v x
  lines-fail (Files e) place many block s t o p a b c v w x h r k low = record {
    blocks = h.blocks ++ block ∷ [];
    reads = reads-more disk name h.blocks place block a b c h.reads r (sym h.count);
    count = omega (arith, length-append h.blocks (block ∷ []), h.count, low);
    stops = subst (λ l. StopsAtPiece S who lun s l o e v x) (sym (concat-one h.blocks block))
        (writes-then-stops S who lun s t (concat h.blocks) block o p e v w x h.writes k);
  }
  lines-fail (Rt e) place many block s t o p a b c v w x h r k low = absurd k
  lines-fail BadRecord place many block s t o p a b c v w x h r k low = absurd k
  lines-fail LineTooLong place many block s t o p a b c v w x h r k low = record {
    blocks = h.blocks ++ block ∷ [];
    reads = reads-more disk name h.blocks place block a b c h.reads r (sym h.count);
    count = omega (arith, length-append h.blocks (block ∷ []), h.count, low);
    meets = subst (λ l. MeetsLongLine S who lun s l o v x) (sym (concat-one h.blocks block))
        (writes-then-long S who lun s t (concat h.blocks) block o p v w x h.writes k);
  }
  lines-fail Unread place many block s t o p a b c v w x h r k low = absurd k

  pub lines-few : (place many : ℕ) (block : List ℕ) (s t : ToRecords) (o p : Out) (a b : RtAccepted E met) (v w : V) → BeginsLines s
      → o.to ≡ 0 → o.place ≡ 0 → ReadsLines S disk who lun name place s t o p a b v w →
      place < many → many < 65536 → length block ≡ 512 → 512 * p.place + length (out_bytes p t block) < 4294967295
  lines-few place many block s t o p a b v w begins empty first h low small size =
      omega (
        arith,
        few-to-come S who lun s t (concat h.blocks) block o p v w begins empty first h.writes,
        length-append {A = ℕ} (concat h.blocks) block,
        whole-length h.blocks h.reads.whole,
        h.count,
        low,
        small,
        size,
      )

-- whole blocks before bytes are whole blocks before those in whole blocks
pub in-whole-behind : (front bytes : List ℕ) (k : ℕ) → length front ≡ 512 * k
    → in_whole_blocks (front ++ bytes) ≡ front ++ in_whole_blocks bytes
in-whole-behind front bytes k whole =
    let size : length (front ++ bytes) % 512 ≡ length bytes % 512 =
    ap (λ n. n % 512) (length-append {A = ℕ} front bytes ∙ ap (λ n. n + length bytes) whole) ∙ mul-add-mod_self_left 512 k (length bytes) in
    append_assoc front bytes (replicate ((512 - length (front ++ bytes) % 512) % 512) 0)
    ∙ ap (λ (n : ℕ). front ++ (bytes ++ replicate ((512 - n) % 512) 0)) size

-- some bytes of a block, and zeros behind them
pub in-whole-part : (bytes : List ℕ) (n : ℕ) → length bytes ≡ n → 0 < n → n < 512 → in_whole_blocks bytes ≡ bytes ++ replicate (512 - n) 0
in-whole-part bytes n is some few =
    ap (λ (k : ℕ). bytes ++ replicate ((512 - k % 512) % 512) 0) is ∙ ap (λ (k : ℕ). bytes ++ replicate k 0) (omega (arith, some, few))

module _ {V : Type 0} (S : FilesService V) (who : Who) (lun : ℕ) where
  -- so many bytes are filled
  filled : (o : Out) (block : List ℕ) → length block ≡ 512 → o.to < 512 → block ≡ take o.to o.block ++ replicate (512 - o.to) 0
      → length (take o.to o.block) ≡ o.to
  filled o block size room is =
      omega (
        arith,
        ap (λ (l : List ℕ). length l) is,
        size,
        room,
        length-append {A = ℕ} (take o.to o.block) (replicate (512 - o.to) 0),
        length-replicate {A = ℕ} (512 - o.to) 0,
      )

  last-is : (o : Out) (block : List ℕ) → length block ≡ 512 → 0 < o.to → o.to < 512 → block ≡ take o.to o.block ++ replicate (512 - o.to) 0
      → block ≡ in_whole_blocks (pending o)
  last-is o block size some room is = is ∙ sym (in-whole-part (take o.to o.block) o.to (filled o block size room is) some room)

  pub flush-last : (o p q : Out) (end : ℕ) (v w : V) → length p.block ≡ 512 → 0 < o.to → o.to < 512
      → p.block ≡ take o.to o.block ++ replicate (512 - o.to) 0 → p.place ≡ o.place →
      end ≡ o.place * 512 + o.to → WritesNext S who lun p q v w → Flushes S who lun o q end v w
  flush-last o p q end v w full some room is same end-is n = record {
    pieces = p.block ∷ [];
    granted = subst (λ k. Granted S who (writes_of lun k (p.block ∷ [])) v w) same n.granted;
    place = omega (arith, n.next, same);
    whole = All-cons is-whole p.block [] full (All-nil is-whole);
    content = append-nil p.block ∙ last-is o p.block full some room is;
    end_is = end-is ∙ omega (arith, filled o p.block full room is);
  }

  -- the end of the text: what is to come of it
  end-onward : (s t u : ToRecords) (o p : Out) (v w : V) → EndsText s t → (h : WritesPieces S who lun t u [] [] o p v w)
      → Onward s u [] [] o p h.pieces
  end-onward s t u o p v w e h =
      let first : Onward s t [] [] o o [] =
      record { bytes = ap (λ l. pending o ++ l) e.goes_on.bytes; longest = e.goes_on.longest; long = e.goes_on.long } in
      onward-then s t u [] [] [] o o p [] h.pieces first (h.onward [])

  -- nothing comes behind it
  end-bytes : (s t u : ToRecords) (o p : Out) (v w : V) → EndsText s t → (h : WritesPieces S who lun t u [] [] o p v w) → gives u ≡ false
      → out_bytes o s [] ≡ concat h.pieces ++ pending p
  end-bytes s t u o p v w e h idle =
      let none = records_end u (omega (arith, h.unended, e.none_open)) idle in
      (end-onward s t u o p v w e h).bytes ∙ ap (λ l. concat h.pieces ++ (pending p ++ l)) none.bytes
      ∙ ap (λ l. concat h.pieces ++ l) (append-nil (pending p))

  end-whole : (s t u : ToRecords) (o p : Out) (v w : V) → EndsText s t → (h : WritesPieces S who lun t u [] [] o p v w) → gives u ≡ false
      → in_whole_blocks (out_bytes o s []) ≡ concat h.pieces ++ in_whole_blocks (pending p)
  end-whole s t u o p v w e h idle =
      ap in_whole_blocks (end-bytes s t u o p v w e h idle)
      ∙ in-whole-behind (concat h.pieces) (pending p) (length h.pieces) (whole-length h.pieces h.whole)

  pub ends-lines : (s t u : ToRecords) (o p q : Out) (blocks end longest : ℕ) (v w x : V) → EndsText s t
      → WritesPieces S who lun t u [] [] o p v w → gives u ≡ false → Flushes S who lun p q end w x →
      blocks ≡ q.place → longest ≡ longest_given u → EndsLines S who lun s o blocks end longest v x
  ends-lines s t u o p q blocks end longest v w x e h idle f are is =
      let none = records_end u (omega (arith, h.unended, e.none_open)) idle in
      let on = end-onward s t u o p v w e h in
      record {
        pieces = h.pieces ++ f.pieces;
        granted = granted-writes S who lun o.place h.pieces f.pieces v w x h.granted
            (subst (λ n. Granted S who (writes_of lun n f.pieces) w x) h.place f.granted);
        blocks_are = omega (arith, are, f.place, h.place, length-append h.pieces f.pieces);
        whole = All-append is-whole h.pieces f.pieces h.whole f.whole;
        content = concat-append h.pieces f.pieces ∙ ap (λ l. concat h.pieces ++ l) f.content ∙ sym (end-whole s t u o p v w e h idle);
        end_is = omega (
          arith,
          f.end_is,
          h.place,
          ap (λ (l : List ℕ). length l) (end-bytes s t u o p v w e h idle),
          length-append {A = ℕ} (concat h.pieces) (pending p),
          whole-length h.pieces h.whole,
        );
        longest_is = is ∙ sym none.longest ∙ on.longest;
        short = sym on.long ∙ none.long;
      }

  pub stops-at-last : (s t u : ToRecords) (o p : Out) (e : Refusal) (v w x : V) → EndsText s t → WritesPieces S who lun t u [] [] o p v w
      → gives u ≡ false → FailsToFlush S who lun p e w x → StopsAtEnd S who lun s o e v x
  stops-at-last s t u o p e v w x ends h idle f = record {
    pieces = h.pieces;
    last = f.last;
    between = w;
    granted = h.granted;
    denied = subst (λ n. Denies S who (writes lun (suc n) f.last) e w x) h.place f.denied;
    whole = All-append is-whole h.pieces (f.last ∷ []) h.whole (All-cons is-whole f.last [] f.size (All-nil is-whole));
    rest = [];
    begins =
        end-whole s t u o p v w ends h idle ∙ ap (λ l. concat h.pieces ++ l) (sym f.content ∙ sym (append-nil f.last))
        ∙ sym (concat-append h.pieces (f.last ∷ []))
        ∙ sym (append-nil (concat (h.pieces ++ f.last ∷ [])));
  }

  -- bytes that begin with whole blocks do so in whole blocks
  begins-whole : (bytes : List ℕ) (pieces : List (List ℕ)) (rest : List ℕ) → All is-whole pieces → bytes ≡ concat pieces ++ rest
      → in_whole_blocks bytes ≡ concat pieces ++ in_whole_blocks rest
  begins-whole bytes pieces rest whole is =
      ap in_whole_blocks is ∙ in-whole-behind (concat pieces) rest (length pieces) (whole-length pieces whole)

  pub end-fails : (f : FlxRefusal) (s t : ToRecords) (o : Out) (v w : V) → EndsText s t → FailsToWritePieces S who lun t [] o f v w
      → FailsToEnd S who lun s o f v w
  end-fails (Files e) s t o v w ends h =
      let none = h.begins [] in
      record {
        pieces = h.pieces;
        last = h.last;
        between = h.between;
        granted = h.granted;
        denied = h.denied;
        whole = h.whole;
        rest = in_whole_blocks none.0;
        begins = begins-whole (out_bytes o s []) (h.pieces ++ h.last ∷ []) none.0 h.whole
            (ap (λ l. pending o ++ l) ends.goes_on.bytes ∙ none.1);
      }
  end-fails (Rt e) s t o v w ends h = absurd h
  end-fails BadRecord s t o v w ends h = absurd h
  end-fails LineTooLong s t o v w ends h = record { pieces = h.pieces; granted = h.granted; long = sym ends.goes_on.long ∙ h.long [] }
  end-fails Unread s t o v w ends h = absurd h

  pub end-few : (s t u : ToRecords) (o p : Out) (v w : V) → EndsText s t → WritesPieces S who lun t u [] [] o p v w → p.to < 512
      → 512 * o.place + length (out_bytes o s []) < 4294966000 → 512 * p.place + p.to < 4294967295
  end-few s t u o p v w e h room few =
      let on = ap (λ (l : List ℕ). length l) (end-onward s t u o p v w e h).bytes in
      omega (arith, on, few, room, h.place, length-append {A = ℕ} (concat h.pieces) (out_bytes p u []), whole-length h.pieces h.whole)
