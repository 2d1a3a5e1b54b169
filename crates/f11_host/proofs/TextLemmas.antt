-- A pass over a text of the host, a step at a time, and what it makes of it.
use Rattle.std.proofs.Common.{◌≡◌, ℕ, suc, ◌+◌, ◌-◌, ◌*◌, ◌/◌, ◌<◌, ◌≤◌, Bool, true, false, if◌then◌else◌, List, [], ◌∷◌, ◌++◌, length}
use Rattle.std.proofs.Common.{take, drop}
use Rattle.std.proofs.Common.{All, Option, Some, None, min, replicate, sym, ap, ◌∙◌, subst, append_assoc, append-nil, length-append}
use Rattle.std.proofs.Common.{arith}
use Rattle.std.specs.Io.KnownBytes.{Consumes}
use Rattle.std.specs.List.{concat}
use Rattle.std.proofs.KnownBytes.{Consumes-nil, Consumes-trans}
use Rattle.std.proofs.Math.Seq.{take-append_seam}
use Rattle.std.proofs.lemmas.Bool.{cond-false, cond-true}
use Rattle.std.proofs.lemmas.List.{take-append-drop, take_all}
use Rattle.std.proofs.lemmas.List.Elements.{All-append}
use Rattle.std.proofs.lemmas.List.Folds.{concat-append}
use Rattle.f11_making.specs.Asking.{Denies, FilesService, Granted, Who, writes, writes_of}
use Rattle.f11_flx.specs.Conversion.{Copy, copied_lines}
use Rattle.f11_flx.specs.Dry.{dry}
use Rattle.f11_flx.specs.Filling.{Out, pending}
use Rattle.f11_flx.specs.Lines.{has_long_line, in_whole_blocks, lines_of, without_zeros}
use Rattle.f11_flx.specs.Passes.{BeginsLines, EndsLines, FailsToEnd}
use Rattle.f11_flx.specs.Spelled.{longest_of, text_attributes, variable_records}
use Rattle.f11_flx.specs.ToRecords.{bytes_to_come, is_too_long, longest_with}
use Rattle.f11_flx.specs.Writing.{FailsToWritePieces, MeetsLongLine, StopsAtPiece, WritesPieces, out_bytes}
use Rattle.f11_flx.specs.declared.refusal.FlxRefusal.{FlxRefusal}
use Rattle.f11_flx.specs.declared.refusal.FlxRefusal.TheVariants.{BadRecord, Files, LineTooLong, Rt, Unread}
use Rattle.f11_flx.specs.declared.to_records.ToRecords.{ToRecords}
use Rattle.f11_flx.proofs.FromRt.MakingLemmas.{same-blocks}
use Rattle.f11_flx.proofs.FromRt.PassedLemmas.{chop, some-of}
use Rattle.f11_flx.proofs.FromRt.PassLemmas.{few-to-come, granted-writes, in-whole-behind, to-come, writes-then, writes-then-long}
use Rattle.f11_flx.proofs.FromRt.PassLemmas.{writes-then-stops}
use Rattle.f11_flx.proofs.FromRt.PlanLemmas.{dry-takes}
use Rattle.f11_flx.proofs.Texts.PourLemmas.{whole-length}
use Rattle.f11_flx.proofs.Texts.WritingLemmas.{is-whole, writes-start}
use Rattle.f11_host.specs.Pieces.{ReadsPiece}
use Rattle.f11_host.specs.TextPasses.{CopiesText, FailsToCopyText, FailsToPlanText, FailsToReadText, LacksText, PlansText, ReadsText}
use Rattle.f11_host.specs.Texts.{IsCopiedText, copied_text}
use Rattle.rt11_text.specs.Crs.{crs_behind, ends_in_cr, with_crs}
use Rattle.rt11_text.proofs.CrsLemmas.{crs-append, crs-few, ends-append}

-- All but so many bytes were read, and the blocks of their lines that are full were written.
pub record Reading {V : Type 0} (S : FilesService V) (who : Who) (lun bytes left : ℕ) (cr : Bool) (s t : ToRecords) (o p : Out)
    (unread unread' : Option (List ℕ)) (old now : V) : Type 0 where
  pub taken : List ℕ
  pub size : length taken + left ≡ bytes
  pub takes : Consumes unread unread' taken
  pub behind : cr ≡ ends_in_cr false taken
  pub writes : WritesPieces S who lun s t (with_crs taken) [] o p old now
  pub room : p.to < 512

-- what is read of a block is its front
pub piece-is : (count : ℕ) (u u' : Option (List ℕ)) (block : List ℕ) → (r : ReadsPiece count u u' block) → take count block ≡ r.piece
piece-is count u u' block r =
    ap (λ (l : List ℕ). take count l) r.is ∙ ap (λ n. take n (r.piece ++ replicate (512 - count) 0)) (sym r.size)
    ∙ take-append_seam r.piece (replicate (512 - count) 0)

module _ {V : Type 0} (S : FilesService V) (who : Who) (lun bytes : ℕ) (s : ToRecords) (o : Out) (unread : Option (List ℕ)) (old : V) where
  pub reading-none : (cr : Bool) → cr ≡ false → o.to ≡ 0 → Reading S who lun bytes bytes cr s s o o unread unread old old
  unfolding crs_behind ends_in_cr
  reading-none cr is empty = record {
    taken = [];
    size = omega arith;
    takes = Consumes-nil unread;
    behind = is;
    writes = writes-start S who lun s [] o old;
    room = omega (arith, empty);
  }

  module _ (left : ℕ) (cr : Bool) (t : ToRecords) (p : Out) (now' : Option (List ℕ)) (now : V)
      (h : Reading S who lun bytes left cr s t o p unread now' old now) (count : ℕ) (block text : List ℕ) (new' : Option (List ℕ))
      (r : ReadsPiece count now' new' block) (least : count ≡ min left 512) (is : text ≡ crs_behind cr (take count block)) where
    -- the text so far, and what comes behind it
    goes-on : with_crs (h.taken ++ r.piece) ≡ with_crs h.taken ++ text
    goes-on =
        crs-append false h.taken r.piece ∙ ap (λ (b : Bool). with_crs h.taken ++ crs_behind b r.piece) (sym h.behind)
        ∙ ap (λ (l : List ℕ). with_crs h.taken ++ crs_behind cr l) (sym (piece-is count now' new' block r))
        ∙ ap (λ (l : List ℕ). with_crs h.taken ++ l) (sym is)

    pub reading-few : bytes ≤ 1073741312 → BeginsLines s → o.to ≡ 0 → o.place ≡ 0
        → 512 * p.place + length (out_bytes p t text) < 4294967295
    reading-few few begins empty first =
        let all = few-to-come S who lun s t (with_crs h.taken) text o p old now begins empty first h.writes in
        let same = ap (λ (l : List ℕ). length l) goes-on in
        let most = crs-few false (h.taken ++ r.piece) in
        omega (arith, all, same, most, length-append {A = ℕ} h.taken r.piece, h.size, r.size, least, few)

    pub reading-more : (cr' : Bool) (t' : ToRecords) (p' : Out) (new : V) → cr' ≡ ends_in_cr cr (take count block)
        → WritesPieces S who lun t t' text [] p p' now new → p'.to < 512
        → Reading S who lun bytes (left - count) cr' s t' o p' unread new' old new
    reading-more cr' t' p' new behind w room = record {
      taken = h.taken ++ r.piece;
      size = omega (arith, length-append {A = ℕ} h.taken r.piece, h.size, r.size, least);
      takes = Consumes-trans unread now' new' h.taken r.piece h.takes r.takes;
      behind =
          behind ∙ ap (λ (l : List ℕ). ends_in_cr cr l) (piece-is count now' new' block r)
          ∙ ap (λ (b : Bool). ends_in_cr b r.piece) h.behind ∙ sym (ends-append false h.taken r.piece);
      writes = subst (λ (l : List ℕ). WritesPieces S who lun s t' l [] o p' old new) (sym goes-on)
          (writes-then S who lun s t t' (with_crs h.taken) text o p p' old now new h.writes w);
      room = room;
    }

    pub reading-fails : (f : FlxRefusal) (new : V) → FailsToWritePieces S who lun t text p f now new
        → FailsToReadText S who lun bytes (h.taken ++ r.piece) s o f unread new' old new
    reading-fails (Files e) new k = record {
      few = omega (arith, length-append {A = ℕ} h.taken r.piece, h.size, r.size, least);
      takes = Consumes-trans unread now' new' h.taken r.piece h.takes r.takes;
      stops = subst (λ (l : List ℕ). StopsAtPiece S who lun s l o e old new) (sym goes-on)
          (writes-then-stops S who lun s t (with_crs h.taken) text o p e old now new h.writes k);
    }
    reading-fails (Rt e) new k = absurd k
    reading-fails BadRecord new k = absurd k
    reading-fails LineTooLong new k = record {
      few = omega (arith, length-append {A = ℕ} h.taken r.piece, h.size, r.size, least);
      takes = Consumes-trans unread now' new' h.taken r.piece h.takes r.takes;
      meets = subst (λ (l : List ℕ). MeetsLongLine S who lun s l o old new) (sym goes-on)
          (writes-then-long S who lun s t (with_crs h.taken) text o p old now new h.writes k);
    }
    reading-fails Unread new k = absurd k

-- from the beginning of the file
at-start : {V : Type 0} (S : FilesService V) (who : Who) (lun : ℕ) (o : Out) (pieces : List (List ℕ)) (v w : V) → o.place ≡ 0
    → Granted S who (writes_of lun o.place pieces) v w → Granted S who (writes_of lun 0 pieces) v w
at-start S who lun o pieces v w first h = subst (λ n. Granted S who (writes_of lun n pieces) v w) first h

-- the host gave no more
pub reading-lacks : {V : Type 0} (S : FilesService V) (who : Who) (lun bytes left : ℕ) (cr : Bool) (s t : ToRecords) (o p : Out)
    (unread unread' : Option (List ℕ)) (old now : V) → Reading S who lun bytes left cr s t o p unread unread' old now → 0 < left
    → o.place ≡ 0 → LacksText S who lun bytes old now
reading-lacks S who lun bytes left cr s t o p unread unread' old now h some first = record {
  some = omega (arith, h.size, some);
  pieces = h.writes.pieces;
  granted = at-start S who lun o h.writes.pieces old now first h.writes.granted;
}

pub reading-all : {V : Type 0} (S : FilesService V) (who : Who) (lun bytes left : ℕ) (cr : Bool) (s t : ToRecords) (o p : Out)
    (unread unread' : Option (List ℕ)) (old now : V) → (h : Reading S who lun bytes left cr s t o p unread unread' old now) → left ≡ 0
    → ReadsText S who lun bytes h.taken s t o p unread unread' old now
reading-all S who lun bytes left cr s t o p unread unread' old now h none = record {
  size = omega (arith, h.size, none);
  takes = h.takes;
  writes = h.writes;
}

abbrev records-in : List ℕ → List ℕ
records-in text = variable_records (lines_of (without_zeros text))

-- a copy of a text, and what it is
is-copied : (text : List ℕ) (full : List (List ℕ)) (attr : List ℕ) → has_long_line (lines_of (without_zeros (with_crs text))) ≡ false
    → concat full ≡ in_whole_blocks (records-in (with_crs text)) → All is-whole full
    → attr ≡ (copied_lines (lines_of (without_zeros (with_crs text)))).attr → IsCopiedText text full attr
is-copied text full attr short content whole is =
    let lines = lines_of (without_zeros (with_crs text)) in
    record {
      copy = copied_lines lines;
      converted =
          ap (λ (l : List ℕ). if has_long_line (lines_of (without_zeros l)) then None else Some (copied_lines (lines_of (without_zeros l))))
          (append-nil (with_crs text))
          ∙ cond-false (has_long_line lines) None (Some (copied_lines lines)) short;
      content_is = content;
      whole = whole;
      attr_is = is;
    }

copied-is : (text : List ℕ) (full : List (List ℕ)) (attr : List ℕ) → IsCopiedText text full attr
    → concat full ≡ in_whole_blocks (records-in (with_crs text))
copied-is text full attr h =
    let all = concat (with_crs text ∷ []) in
    let is = some-of (has_long_line (lines_of (without_zeros all))) (copied_lines (lines_of (without_zeros all))) h.copy h.converted in
    h.content_is ∙ ap (λ (c : Copy). c.content) (sym is.1)
    ∙ ap (λ (l : List ℕ). in_whole_blocks (records-in l)) (append-nil (with_crs text))

-- there is one
pub same-copies : (text : List ℕ) (full full' : List (List ℕ)) (attr attr' : List ℕ) → IsCopiedText text full attr
    → IsCopiedText text full' attr' → full ≡ full'
same-copies text full full' attr attr' h k =
    same-blocks full' full k.whole h.whole (copied-is text full attr h ∙ sym (copied-is text full' attr' k))

not-copied : (text : List ℕ) → has_long_line (lines_of (without_zeros (with_crs text))) ≡ true → copied_text text ≡ None
not-copied text long =
    let lines = lines_of (without_zeros (with_crs text)) in
    ap (λ (l : List ℕ). if has_long_line (lines_of (without_zeros l)) then None else Some (copied_lines (lines_of (without_zeros l))))
    (append-nil (with_crs text))
    ∙ cond-true (has_long_line lines) None (Some (copied_lines lines)) long

-- and with one more
chop-last : (ps full : List (List ℕ)) (last rest : List ℕ) → All is-whole (ps ++ last ∷ []) → All is-whole full
    → concat full ≡ concat (ps ++ last ∷ []) ++ rest → (more : List (List ℕ)) × (full ≡ ps ++ last ∷ more)
chop-last ps full last rest w v is =
    let more = chop (ps ++ last ∷ []) full rest w v is in
    (more.0, more.1 ∙ append_assoc ps (last ∷ []) more.0)

-- a text that begins with what was taken
behind-taken : (text taken : List ℕ) → take (length taken) text ≡ taken
    → with_crs text ≡ with_crs taken ++ crs_behind (ends_in_cr false taken) (drop (length taken) text)
behind-taken text taken front =
    ap with_crs (sym (take-append-drop (length taken) text) ∙ ap (λ (l : List ℕ). l ++ drop (length taken) text) front)
    ∙ crs-append false taken (drop (length taken) text)

all-of : (text taken : List ℕ) (bytes : ℕ) → length taken ≡ bytes → length text ≡ bytes → take (length taken) text ≡ taken → text ≡ taken
all-of text taken bytes is size front = sym (take_all (length taken) text (omega (arith, is, size))) ∙ front

module _ {V : Type 0} (S : FilesService V) (who : Who) (lun bytes : ℕ) (taken : List ℕ) (u u' : Option (List ℕ)) (s : ToRecords) (o : Out)
    (begins : BeginsLines s) (empty : o.to ≡ 0) (first : o.place ≡ 0) where
  -- reading stopped
  pub text-fails : (f : FlxRefusal) (v w : V) → FailsToReadText S who lun bytes taken s o f u u' v w
      → FailsToCopyText S who lun bytes taken f u u' v w
  text-fails (Files e) v w h =
      let k = h.stops in
      record {
        few = h.few;
        takes = h.takes;
        pieces = k.pieces;
        last = k.last;
        between = k.between;
        granted = at-start S who lun o k.pieces v k.between first k.granted;
        denied = subst (λ n. Denies S who (writes lun (suc n) k.last) e k.between w) (omega (arith, first)) k.denied;
        begins = λ text size front full attr c.
            let behind = crs_behind (ends_in_cr false taken) (drop (length taken) text) in
            let rest = k.begins behind in
            let none : pending o ≡ [] = ap (λ n. take n o.block) empty in
            let bytes : records-in (with_crs text) ≡ concat (k.pieces ++ k.last ∷ []) ++ rest.0 =
            ap records-in (behind-taken text taken front) ∙ sym (begins.bytes (with_crs taken ++ behind))
            ∙ ap (λ (l : List ℕ). l ++ bytes_to_come s (with_crs taken ++ behind)) (sym none) ∙ rest.1 in
            let whole = whole-length (k.pieces ++ k.last ∷ []) k.whole in
            chop-last k.pieces full k.last (in_whole_blocks rest.0) k.whole c.whole
            (copied-is text full attr c ∙ ap in_whole_blocks bytes
            ∙ in-whole-behind (concat (k.pieces ++ k.last ∷ [])) rest.0 (length (k.pieces ++ k.last ∷ [])) whole);
      }
  text-fails (Rt e) v w h = absurd h
  text-fails BadRecord v w h = absurd h
  text-fails LineTooLong v w h = record {
    has = record {
      few = h.few;
      takes = h.takes;
      none = λ text size front.
          let behind = crs_behind (ends_in_cr false taken) (drop (length taken) text) in
          not-copied text
          (ap (λ (l : List ℕ). has_long_line (lines_of (without_zeros l))) (behind-taken text taken front)
          ∙ sym (begins.long (with_crs taken ++ behind)) ∙ h.meets.long behind);
    };
    pieces = h.meets.pieces;
    granted = at-start S who lun o h.meets.pieces v w first h.meets.granted;
  }
  text-fails Unread v w h = h

  module _ (t : ToRecords) (p : Out) (v w : V) (h : ReadsText S who lun bytes taken s t o p u u' v w) where
    pub text-few : bytes ≤ 1073741312 → 512 * p.place + length (out_bytes p t []) < 4294966000
    text-few few =
        omega (
          arith,
          few-to-come S who lun s t (with_crs taken) [] o p v w begins empty first h.writes,
          length-append {A = ℕ} (with_crs taken) [],
          crs-few false taken,
          h.size,
          few,
        )

    -- all bytes of the text, when it was read
    text-bytes : records-in (with_crs taken) ≡ concat h.writes.pieces ++ out_bytes p t []
    text-bytes =
        ap records-in (sym (append-nil (with_crs taken))) ∙ to-come S who lun s t (with_crs taken) [] o p v w begins empty h.writes

    text-lines : is_too_long t [] ≡ has_long_line (lines_of (without_zeros (with_crs taken)))
    text-lines =
        (h.writes.onward []).long ∙ ap (λ l. is_too_long s l) (append-nil (with_crs taken)) ∙ begins.long (with_crs taken)

    text-longest : longest_with t [] ≡ longest_of (lines_of (without_zeros (with_crs taken)))
    text-longest =
        (h.writes.onward []).longest ∙ ap (λ l. longest_with s l) (append-nil (with_crs taken)) ∙ begins.longest (with_crs taken)

    text-whole : in_whole_blocks (records-in (with_crs taken)) ≡ concat h.writes.pieces ++ in_whole_blocks (out_bytes p t [])
    text-whole =
        ap in_whole_blocks text-bytes
        ∙ in-whole-behind (concat h.writes.pieces) (out_bytes p t []) (length h.writes.pieces)
        (whole-length h.writes.pieces h.writes.whole)

    both : (ys : List (List ℕ)) (x : V) → Granted S who (writes_of lun p.place ys) w x
        → Granted S who (writes_of lun 0 (h.writes.pieces ++ ys)) v x
    both ys x k =
        granted-writes S who lun 0 h.writes.pieces ys v w x (at-start S who lun o h.writes.pieces v w first h.writes.granted)
        (subst (λ n. Granted S who (writes_of lun n ys) w x) (h.writes.place ∙ ap (λ n. n + length h.writes.pieces) first) k)

    -- the whole copy
    pub text-copies : (blocks end longest : ℕ) (x : V) → EndsLines S who lun t p blocks end longest w x
        → CopiesText S who lun bytes taken blocks end longest u u' v x
    text-copies blocks end longest x k =
        let lines = lines_of (without_zeros (with_crs taken)) in
        let content : concat (h.writes.pieces ++ k.pieces) ≡ in_whole_blocks (records-in (with_crs taken)) =
        concat-append h.writes.pieces k.pieces ∙ ap (λ l. concat h.writes.pieces ++ l) k.content ∙ sym text-whole in
        let whole = All-append is-whole h.writes.pieces k.pieces h.writes.whole k.whole in
        let count : blocks ≡ length (h.writes.pieces ++ k.pieces) =
        omega (arith, k.blocks_are, h.writes.place, first, length-append h.writes.pieces k.pieces) in
        let many-blocks : blocks ≡ length (in_whole_blocks (records-in (with_crs taken))) / 512 =
        omega (arith, count, whole-length (h.writes.pieces ++ k.pieces) whole, ap (λ (l : List ℕ). length l) content) in
        let end-is : end ≡ length (records-in (with_crs taken)) =
        omega (
          arith,
          k.end_is,
          h.writes.place,
          first,
          ap (λ (l : List ℕ). length l) text-bytes,
          length-append {A = ℕ} (concat h.writes.pieces) (out_bytes p t []),
          whole-length h.writes.pieces h.writes.whole,
        ) in
        let longest-is : longest ≡ longest_of lines = k.longest_is ∙ text-longest in
        record {
          size = h.size;
          takes = h.takes;
          pieces = h.writes.pieces ++ k.pieces;
          granted = both k.pieces x k.granted;
          count = sym count;
          copied =
              is-copied taken (h.writes.pieces ++ k.pieces) (text_attributes longest blocks end) (sym text-lines ∙ k.short) content whole
              (ap (λ n. text_attributes n blocks end) longest-is ∙ ap (λ n. text_attributes (longest_of lines) n end) many-blocks
              ∙ ap (λ n. text_attributes (longest_of lines) (length (in_whole_blocks (records-in (with_crs taken))) / 512) n) end-is);
        }

    pub text-end-fails : (f : FlxRefusal) (x : V) → FailsToEnd S who lun t p f w x → FailsToCopyText S who lun bytes taken f u u' v x
    text-end-fails (Files e) x k = record {
      few = omega (arith, h.size);
      takes = h.takes;
      pieces = h.writes.pieces ++ k.pieces;
      last = k.last;
      between = k.between;
      granted = both k.pieces k.between k.granted;
      denied = subst (λ n. Denies S who (writes lun (suc n) k.last) e k.between x)
          (omega (arith, h.writes.place, first, length-append h.writes.pieces k.pieces)) k.denied;
      begins = λ text size front full attr c.
          let same : text ≡ taken = all-of text taken bytes h.size size front in
          let all = All-append is-whole h.writes.pieces (k.pieces ++ k.last ∷ []) h.writes.whole k.whole in
          let bytes : concat full ≡ concat (h.writes.pieces ++ (k.pieces ++ k.last ∷ [])) ++ k.rest =
          copied-is text full attr c ∙ ap (λ (l : List ℕ). in_whole_blocks (records-in (with_crs l))) same
          ∙ text-whole
          ∙ ap (λ l. concat h.writes.pieces ++ l) k.begins
          ∙ sym (append_assoc (concat h.writes.pieces) (concat (k.pieces ++ k.last ∷ [])) k.rest)
          ∙ ap (λ l. l ++ k.rest) (sym (concat-append h.writes.pieces (k.pieces ++ k.last ∷ []))) in
          let order : h.writes.pieces ++ (k.pieces ++ k.last ∷ []) ≡ (h.writes.pieces ++ k.pieces) ++ k.last ∷ [] =
          sym (append_assoc h.writes.pieces k.pieces (k.last ∷ [])) in
          chop-last (h.writes.pieces ++ k.pieces) full k.last k.rest (subst (All is-whole) order all) c.whole
          (bytes ∙ ap (λ l. concat l ++ k.rest) order);
    }
    text-end-fails (Rt e) x k = absurd k
    text-end-fails BadRecord x k = absurd k
    text-end-fails LineTooLong x k = record {
      has = record {
        few = omega (arith, h.size);
        takes = h.takes;
        none = λ text size front.
            let same : text ≡ taken = all-of text taken bytes h.size size front in
            not-copied text
            (ap (λ (l : List ℕ). has_long_line (lines_of (without_zeros (with_crs l)))) same ∙ sym text-lines ∙ k.long);
      };
      pieces = h.writes.pieces ++ k.pieces;
      granted = both k.pieces x k.granted;
    }
    text-end-fails Unread x k = absurd k

-- a pass that writes nothing judges the copy
pub text-plan : {V : Type 0} (who : Who) (lun bytes : ℕ) (taken : List ℕ) (blocks end longest : ℕ) (u u' : Option (List ℕ)) (v w : V)
    → CopiesText dry who lun bytes taken blocks end longest u u' v w → PlansText bytes blocks end longest u u'
text-plan who lun bytes taken blocks end longest u u' v w h = record {
  taken = taken;
  size = h.size;
  takes = h.takes;
  pieces = h.pieces;
  count = h.count;
  copied = h.copied;
}

pub text-unplanned : {V : Type 0} (f : FlxRefusal) (who : Who) (lun bytes : ℕ) (taken : List ℕ) (u u' : Option (List ℕ)) (v w : V)
    → FailsToCopyText dry who lun bytes taken f u u' v w → FailsToPlanText bytes f u u'
text-unplanned (Files e) who lun bytes taken u u' v w h = dry-takes who lun (suc (length h.pieces)) h.last e h.between w h.denied
text-unplanned (Rt e) who lun bytes taken u u' v w h = absurd h
text-unplanned BadRecord who lun bytes taken u u' v w h = absurd h
text-unplanned LineTooLong who lun bytes taken u u' v w h = (taken, h.has)
text-unplanned Unread who lun bytes taken u u' v w h = h.some
