-- What a pass over a file makes of it.
use Rattle.std.proofs.Common.{◌≡◌, ℕ, suc, ◌+◌, ◌*◌, ◌/◌, ◌<◌, Bool, true, false, if◌then◌else◌, List, [], ◌∷◌, ◌++◌, length, take, drop}
use Rattle.std.proofs.Common.{All, Some, None, refl, sym, ap, ◌∙◌, subst, append_assoc, append-nil, length-append, arith}
use Rattle.std.specs.List.{concat}
use Rattle.std.proofs.Math.Seq.{take-append_seam}
use Rattle.std.proofs.lemmas.Bool.{cond-false, cond-true}
use Rattle.std.proofs.lemmas.List.{append_cancel_left, take-append-drop, take_all}
use Rattle.std.proofs.lemmas.List.Elements.{All-append, All-cons, All-head, All-nil, All-tail}
use Rattle.std.proofs.lemmas.List.Folds.{concat-append}
use Rattle.f11_dev.specs.Disk.{Disk}
use Rattle.f11_dev.specs.declared.device.Device.{Ghosts}
use Rattle.rt11_volume.specs.declared.volume.RtAccepted.{RtAccepted}
use Rattle.f11_store.specs.declared.refusals.Refusal.{Refusal}
use Rattle.rt11_volume.specs.declared.refusal.RtRefusal.{RtRefusal}
use Rattle.f11_making.specs.Asking.{Denies, Granted, Grants, FilesService, Who, writes, writes_of}
use Rattle.f11_flx.specs.Conversion.{Copy, copied_lines}
use Rattle.f11_flx.specs.Filling.{Out, pending}
use Rattle.f11_flx.specs.Lines.{has_long_line, in_whole_blocks, lines_of, without_zeros}
use Rattle.f11_flx.specs.Passes.{BeginsLines, CopiesFile, CopiesImage, EndsLines, FailsToCopyFile, FailsToEnd, FailsToReadLines, HasNoCopy}
use Rattle.f11_flx.specs.Passes.{IsCopied, ReadsLines, StopsAtBlock, StopsAtLine, StopsAtPlace, StopsCopying}
use Rattle.f11_flx.specs.RtSource.{FailsToReadPlace, ReadsPlace}
use Rattle.f11_flx.specs.Spelled.{image_attributes, longest_of, text_attributes, variable_records}
use Rattle.f11_flx.specs.ToRecords.{bytes_to_come, is_too_long, longest_with}
use Rattle.f11_flx.specs.Writing.{out_bytes}
use Rattle.f11_flx.specs.declared.mode.CopyMode.TheVariants.{Image, Text}
use Rattle.f11_flx.specs.declared.refusal.FlxRefusal.{FlxRefusal}
use Rattle.f11_flx.specs.declared.refusal.FlxRefusal.TheVariants.{BadRecord, Files, LineTooLong, Rt, Unread}
use Rattle.f11_flx.specs.declared.to_records.ToRecords.{ToRecords}
use Rattle.f11_flx.proofs.FromRt.PassLemmas.{few-to-come, granted-writes, in-whole-behind, reads-more, stops-reading, to-come}
use Rattle.f11_flx.proofs.Texts.PourLemmas.{whole-length}
use Rattle.f11_flx.proofs.Texts.WritingLemmas.{is-whole}

-- whole blocks of which the bytes begin with those of others begin with them
pub chop : (ps full : List (List ℕ)) (rest : List ℕ) → All is-whole ps → All is-whole full → concat full ≡ concat ps ++ rest
    → (more : List (List ℕ)) × (full ≡ ps ++ more)
chop [] full rest w v is = (full, refl)
chop (p ∷ ps) [] rest w v is =
    absurd (omega (
      arith,
      ap (λ (l : List ℕ). length l) is,
      All-head is-whole p ps w,
      length-append {A = ℕ} p (concat ps),
      length-append {A = ℕ} (concat (p ∷ ps)) rest,
    ))
chop (p ∷ ps) (f ∷ fs) rest w v is =
    let all : f ++ concat fs ≡ p ++ (concat ps ++ rest) = is ∙ append_assoc p (concat ps) rest in
    let size : length f ≡ length p = All-head is-whole f fs v ∙ sym (All-head is-whole p ps w) in
    let head : f ≡ p = sym (take-append_seam f (concat fs)) ∙ ap (λ n. take n (f ++ concat fs)) size
    ∙ ap (λ (l : List ℕ). take (length p) l) all ∙ take-append_seam p (concat ps ++ rest) in
    let tail : concat fs ≡ concat ps ++ rest = append_cancel_left p (concat fs) (concat ps ++ rest)
    (ap (λ x. x ++ concat fs) (sym head) ∙ all) in
    let more = chop ps fs rest (All-tail is-whole p ps w) (All-tail is-whole f fs v) tail in
    (more.0, ap (λ x. x ∷ fs) head ∙ ap (λ l. p ∷ l) more.1)

-- and so with one more
chop-last : (ps full : List (List ℕ)) (last rest : List ℕ) → All is-whole (ps ++ last ∷ []) → All is-whole full
    → concat full ≡ concat (ps ++ last ∷ []) ++ rest → (more : List (List ℕ)) × (full ≡ ps ++ last ∷ more)
chop-last ps full last rest w v is =
    let more = chop (ps ++ last ∷ []) full rest w v is in
    (more.0, more.1 ∙ append_assoc ps (last ∷ []) more.0)

abbrev records-in : List (List ℕ) → List ℕ
records-in blocks = variable_records (lines_of (without_zeros (concat blocks)))

pub some-of : (b : Bool) (c copy : Copy) → (if b then None else Some c) ≡ Some copy → (b ≡ false) × (c ≡ copy)
some-of true c copy is = absurd (cc)
some-of false c copy is = (refl, cc)

-- what a copy of lines is
text-is : (blocks full : List (List ℕ)) (attr : List ℕ) → IsCopied Text blocks full attr → concat full ≡ in_whole_blocks (records-in blocks)
text-is blocks full attr h =
    let is = some-of (has_long_line (lines_of (without_zeros (concat blocks)))) (copied_lines (lines_of (without_zeros (concat blocks))))
    h.copy h.converted in
    h.content_is ∙ ap (λ (c : Copy). c.content) (sym is.1)

-- a list is its front, and what is behind it
parted : (source contents : List (List ℕ)) → take (length source) contents ≡ source
    → concat contents ≡ concat source ++ concat (drop (length source) contents)
parted source contents front =
    ap concat (sym (take-append-drop (length source) contents))
    ∙ concat-append (take (length source) contents) (drop (length source) contents)
    ∙ ap (λ l. concat l ++ concat (drop (length source) contents)) front

pub all-of : (source contents : List (List ℕ)) (many : ℕ) → length source ≡ many → take (length source) contents ≡ source
    → length contents ≡ many → contents ≡ source
all-of source contents many is front size = sym (take_all (length source) contents (omega (arith, is, size))) ∙ front

-- from the beginning of the file
at-start : {V : Type 0} (S : FilesService V) (who : Who) (lun : ℕ) (o : Out) (pieces : List (List ℕ)) (v w : V) → o.place ≡ 0
    → Granted S who (writes_of lun o.place pieces) v w → Granted S who (writes_of lun 0 pieces) v w
at-start S who lun o pieces v w first h = subst (λ n. Granted S who (writes_of lun n pieces) v w) first h

module _ {V E : Type 0} {met : Ghosts E} (S : FilesService V) (disk : E → Disk) (who : Who) (lun : ℕ) (name : List ℕ) (many : ℕ) where
  text-stops : (e : Refusal) (s : ToRecords) (o : Out) (a b : RtAccepted E met) (v w : V) → BeginsLines s → o.to ≡ 0 → o.place ≡ 0
      → StopsAtBlock S disk who lun name many s o e a b v w → StopsCopying S disk Text who lun name many e a b v w
  text-stops e s o a b v w begins empty first h =
      let k = h.stops in
      record {
        source = h.blocks;
        reads = h.reads;
        pieces = k.pieces;
        last = k.last;
        between = k.between;
        granted = at-start S who lun o k.pieces v k.between first k.granted;
        denied = subst (λ n. Denies S who (writes lun (suc n) k.last) e k.between w) (omega (arith, first)) k.denied;
        begins = λ contents front size full attr c.
            let behind = concat (drop (length h.blocks) contents) in
            let all : concat contents ≡ concat h.blocks ++ behind = parted h.blocks contents front in
            let rest = k.begins behind in
            let none : pending o ≡ [] = ap (λ n. take n o.block) empty in
            let bytes : records-in contents ≡ concat (k.pieces ++ k.last ∷ []) ++ rest.0 =
            ap (λ (l : List ℕ). variable_records (lines_of (without_zeros l))) all ∙ sym (begins.bytes (concat h.blocks ++ behind))
            ∙ ap (λ (l : List ℕ). l ++ bytes_to_come s (concat h.blocks ++ behind)) (sym none) ∙ rest.1 in
            let whole = whole-length (k.pieces ++ k.last ∷ []) k.whole in
            chop-last k.pieces full k.last (in_whole_blocks rest.0) k.whole c.whole
            (text-is contents full attr c ∙ ap in_whole_blocks bytes ∙ in-whole-behind (concat (k.pieces ++ k.last ∷ [])) rest.0
            (length (k.pieces ++ k.last ∷ [])) whole);
      }

  text-long : (s : ToRecords) (o : Out) (a b : RtAccepted E met) (v w : V) → BeginsLines s → o.place ≡ 0
      → StopsAtLine S disk who lun name many s o a b v w → HasNoCopy S disk Text who lun name many a b v w
  text-long s o a b v w begins first h = record {
    source = h.blocks;
    reads = h.reads;
    pieces = h.meets.pieces;
    granted = at-start S who lun o h.meets.pieces v w first h.meets.granted;
    none = λ contents front size.
        let behind = concat (drop (length h.blocks) contents) in
        let all : concat contents ≡ concat h.blocks ++ behind = parted h.blocks contents front in
        let long : has_long_line (lines_of (without_zeros (concat contents))) ≡ true =
        ap (λ (l : List ℕ). has_long_line (lines_of (without_zeros l))) all ∙ sym (begins.long (concat h.blocks ++ behind))
        ∙ h.meets.long behind in
        cond-true (has_long_line (lines_of (without_zeros (concat contents)))) None
        (Some (copied_lines (lines_of (without_zeros (concat contents))))) long;
  }

  pub text-fails : (f : FlxRefusal) (s : ToRecords) (o : Out) (a b : RtAccepted E met) (v w : V) → BeginsLines s → o.to ≡ 0 → o.place ≡ 0
      → FailsToReadLines S disk who lun name many s o f a b v w →
      FailsToCopyFile S disk Text who lun name many f a b v w
  text-fails (Files e) s o a b v w begins empty first h = text-stops e s o a b v w begins empty first h
  text-fails (Rt e) s o a b v w begins empty first h = h
  text-fails BadRecord s o a b v w begins empty first h = absurd h
  text-fails LineTooLong s o a b v w begins empty first h = text-long s o a b v w begins first h
  text-fails Unread s o a b v w begins empty first h = absurd h

  pub text-few : (s t : ToRecords) (o p : Out) (a b : RtAccepted E met) (v w : V) → BeginsLines s → o.to ≡ 0 → o.place ≡ 0
      → ReadsLines S disk who lun name many s t o p a b v w → many < 65536 →
      512 * p.place + length (out_bytes p t []) < 4294966000
  text-few s t o p a b v w begins empty first h small =
      omega (
        arith,
        few-to-come S who lun s t (concat h.blocks) [] o p v w begins empty first h.writes,
        length-append {A = ℕ} (concat h.blocks) [],
        whole-length h.blocks h.reads.whole,
        h.count,
        small,
      )

  -- all bytes of the text, when it was read
  text-bytes : (s t : ToRecords) (o p : Out) (a b : RtAccepted E met) (v w : V) → BeginsLines s → o.to ≡ 0
      → (h : ReadsLines S disk who lun name many s t o p a b v w) →
      records-in h.blocks ≡ concat h.writes.pieces ++ out_bytes p t []
  text-bytes s t o p a b v w begins empty h =
      ap (λ (l : List ℕ). variable_records (lines_of (without_zeros l))) (sym (append-nil (concat h.blocks)))
      ∙ to-come S who lun s t (concat h.blocks) [] o p v w begins empty h.writes

  text-lines : (s t : ToRecords) (o p : Out) (a b : RtAccepted E met) (v w : V) → BeginsLines s
      → (h : ReadsLines S disk who lun name many s t o p a b v w)
      → is_too_long t [] ≡ has_long_line (lines_of (without_zeros (concat h.blocks)))
  text-lines s t o p a b v w begins h =
      (h.writes.onward []).long ∙ ap (λ l. is_too_long s l) (append-nil (concat h.blocks)) ∙ begins.long (concat h.blocks)

  text-longest : (s t : ToRecords) (o p : Out) (a b : RtAccepted E met) (v w : V) → BeginsLines s
      → (h : ReadsLines S disk who lun name many s t o p a b v w)
      → longest_with t [] ≡ longest_of (lines_of (without_zeros (concat h.blocks)))
  text-longest s t o p a b v w begins h =
      (h.writes.onward []).longest ∙ ap (λ l. longest_with s l) (append-nil (concat h.blocks)) ∙ begins.longest (concat h.blocks)

  text-whole : (s t : ToRecords) (o p : Out) (a b : RtAccepted E met) (v w : V) → BeginsLines s → o.to ≡ 0
      → (h : ReadsLines S disk who lun name many s t o p a b v w) →
      in_whole_blocks (records-in h.blocks) ≡ concat h.writes.pieces ++ in_whole_blocks (out_bytes p t [])
  text-whole s t o p a b v w begins empty h =
      ap in_whole_blocks (text-bytes s t o p a b v w begins empty h)
      ∙ in-whole-behind (concat h.writes.pieces) (out_bytes p t []) (length h.writes.pieces)
      (whole-length h.writes.pieces h.writes.whole)

  both : (s t : ToRecords) (o p : Out) (ys : List (List ℕ)) (a b : RtAccepted E met) (v w x : V) → o.place ≡ 0
      → (h : ReadsLines S disk who lun name many s t o p a b v w) → Granted S who (writes_of lun p.place ys) w x →
      Granted S who (writes_of lun 0 (h.writes.pieces ++ ys)) v x
  both s t o p ys a b v w x first h k =
      granted-writes S who lun 0 h.writes.pieces ys v w x (at-start S who lun o h.writes.pieces v w first h.writes.granted)
      (subst (λ n. Granted S who (writes_of lun n ys) w x) (h.writes.place ∙ ap (λ n. n + length h.writes.pieces) first) k)

  -- the whole copy
  pub text-copies : (s t : ToRecords) (o p : Out) (blocks end longest : ℕ) (a b : RtAccepted E met) (v w x : V) → BeginsLines s → o.to ≡ 0
      → o.place ≡ 0 → ReadsLines S disk who lun name many s t o p a b v w →
      EndsLines S who lun t p blocks end longest w x
      → CopiesFile S disk Text who lun name many blocks (text_attributes longest blocks end) a b v x
  text-copies s t o p blocks end longest a b v w x begins empty first h k =
      let lines = lines_of (without_zeros (concat h.blocks)) in
      let content : concat (h.writes.pieces ++ k.pieces) ≡ in_whole_blocks (records-in h.blocks) =
      concat-append h.writes.pieces k.pieces ∙ ap (λ l. concat h.writes.pieces ++ l) k.content
      ∙ sym (text-whole s t o p a b v w begins empty h) in
      let whole = All-append is-whole h.writes.pieces k.pieces h.writes.whole k.whole in
      let count : blocks ≡ length (h.writes.pieces ++ k.pieces) =
      omega (arith, k.blocks_are, h.writes.place, first, length-append h.writes.pieces k.pieces) in
      let many-blocks : blocks ≡ length (in_whole_blocks (records-in h.blocks)) / 512 =
      omega (arith, count, whole-length (h.writes.pieces ++ k.pieces) whole, ap (λ (l : List ℕ). length l) content) in
      let end-is : end ≡ length (records-in h.blocks) =
      omega (
        arith,
        k.end_is,
        h.writes.place,
        first,
        ap (λ (l : List ℕ). length l) (text-bytes s t o p a b v w begins empty h),
        length-append {A = ℕ} (concat h.writes.pieces) (out_bytes p t []),
        whole-length h.writes.pieces h.writes.whole,
      ) in
      let longest-is : longest ≡ longest_of lines = k.longest_is ∙ text-longest s t o p a b v w begins h in
      record {
        source = h.blocks;
        reads = h.reads;
        count = h.count;
        pieces = h.writes.pieces ++ k.pieces;
        granted = both s t o p k.pieces a b v w x first h k.granted;
        blocks_are = count;
        copied = record {
          copy = copied_lines lines;
          converted = cond-false (has_long_line lines) None (Some (copied_lines lines))
              (sym (text-lines s t o p a b v w begins h) ∙ k.short);
          content_is = content;
          whole = whole;
          attr_is =
              ap (λ n. text_attributes n blocks end) longest-is ∙ ap (λ n. text_attributes (longest_of lines) n end) many-blocks
              ∙ ap (λ n. text_attributes (longest_of lines) (length (in_whole_blocks (records-in h.blocks)) / 512) n) end-is;
        };
      }

  pub text-end-fails : (f : FlxRefusal) (s t : ToRecords) (o p : Out) (a b : RtAccepted E met) (v w x : V) → BeginsLines s → o.to ≡ 0
      → o.place ≡ 0 → ReadsLines S disk who lun name many s t o p a b v w →
      FailsToEnd S who lun t p f w x → FailsToCopyFile S disk Text who lun name many f a b v x
  text-end-fails (Files e) s t o p a b v w x begins empty first h k = record {
    source = h.blocks;
    reads = h.reads;
    pieces = h.writes.pieces ++ k.pieces;
    last = k.last;
    between = k.between;
    granted = both s t o p k.pieces a b v w k.between first h k.granted;
    denied = subst (λ n. Denies S who (writes lun (suc n) k.last) e k.between x)
        (omega (arith, h.writes.place, first, length-append h.writes.pieces k.pieces)) k.denied;
    begins = λ contents front size full attr c.
        let same : contents ≡ h.blocks = all-of h.blocks contents many h.count front size in
        let all = All-append is-whole h.writes.pieces (k.pieces ++ k.last ∷ []) h.writes.whole k.whole in
        let bytes : concat full ≡ concat (h.writes.pieces ++ (k.pieces ++ k.last ∷ [])) ++ k.rest =
        text-is contents full attr c ∙ ap (λ l. in_whole_blocks (variable_records (lines_of (without_zeros (concat l))))) same
        ∙ text-whole s t o p a b v w begins empty h
        ∙ ap (λ l. concat h.writes.pieces ++ l) k.begins
        ∙ sym (append_assoc (concat h.writes.pieces) (concat (k.pieces ++ k.last ∷ [])) k.rest)
        ∙ ap (λ l. l ++ k.rest) (sym (concat-append h.writes.pieces (k.pieces ++ k.last ∷ []))) in
        let order : h.writes.pieces ++ (k.pieces ++ k.last ∷ []) ≡ (h.writes.pieces ++ k.pieces) ++ k.last ∷ [] =
        sym (append_assoc h.writes.pieces k.pieces (k.last ∷ [])) in
        chop-last (h.writes.pieces ++ k.pieces) full k.last k.rest (subst (All is-whole) order all) c.whole
        (bytes ∙ ap (λ l. concat l ++ k.rest) order);
  }
  text-end-fails (Rt e) s t o p a b v w x begins empty first h k = absurd k
  text-end-fails BadRecord s t o p a b v w x begins empty first h k = absurd k
  text-end-fails LineTooLong s t o p a b v w x begins empty first h k = record {
    source = h.blocks;
    reads = h.reads;
    pieces = h.writes.pieces ++ k.pieces;
    granted = both s t o p k.pieces a b v w x first h k.granted;
    none = λ contents front size.
        let same : contents ≡ h.blocks = all-of h.blocks contents many h.count front size in
        let long : has_long_line (lines_of (without_zeros (concat contents))) ≡ true =
        ap (λ l. has_long_line (lines_of (without_zeros (concat l)))) same ∙ sym (text-lines s t o p a b v w begins h) ∙ k.long in
        cond-true (has_long_line (lines_of (without_zeros (concat contents)))) None
        (Some (copied_lines (lines_of (without_zeros (concat contents))))) long;
  }
  text-end-fails Unread s t o p a b v w x begins empty first h k = absurd k

  -- blocks as they are
  pub image-copies : (a b : RtAccepted E met) (v w : V) → CopiesImage S disk who lun name many a b v w
      → CopiesFile S disk Image who lun name many many (image_attributes many) a b v w
  image-copies a b v w h = record {
    source = h.blocks;
    reads = h.reads;
    count = h.count;
    pieces = h.blocks;
    granted = h.granted;
    blocks_are = sym h.count;
    copied = record {
      copy = record { content = concat h.blocks; attr = image_attributes (length h.blocks) };
      converted = refl;
      content_is = refl;
      whole = h.reads.whole;
      attr_is = ap image_attributes (sym h.count);
    };
  }

  pub image-refused : (place vbn : ℕ) (block : List ℕ) (e : Refusal) (a b c : RtAccepted E met) (v w x : V)
      → CopiesImage S disk who lun name place a b v w → ReadsPlace disk name place block b c → vbn ≡ place + 1 →
      Denies S who (writes lun vbn block) e w x → StopsCopying S disk Image who lun name many e a c v x
  image-refused place vbn block e a b c v w x h r at d = record {
    source = h.blocks ++ block ∷ [];
    reads = reads-more disk name h.blocks place block a b c h.reads r (sym h.count);
    pieces = h.blocks;
    last = block;
    between = w;
    granted = h.granted;
    denied = subst (λ n. Denies S who (writes lun n block) e w x) (omega (arith, at, h.count)) d;
    begins = λ contents front size full attr k.
        let same : record { content = concat contents; attr = image_attributes (length contents) } ≡ k.copy = cc in
        let bytes : concat full ≡ concat (h.blocks ++ block ∷ []) ++ concat (drop (length (h.blocks ++ block ∷ [])) contents) =
        k.content_is ∙ ap (λ (c : Copy). c.content) (sym same) ∙ parted (h.blocks ++ block ∷ []) contents front in
        let whole = All-append is-whole h.blocks (block ∷ []) h.reads.whole (All-cons is-whole block [] r.size (All-nil is-whole)) in
        chop-last h.blocks full block (concat (drop (length (h.blocks ++ block ∷ [])) contents)) whole k.whole bytes;
  }

module _ {V E : Type 0} {met : Ghosts E} (S : FilesService V) (disk : E → Disk) (who : Who) (lun : ℕ) (name : List ℕ) where
  pub image-stops : (many place : ℕ) (e : RtRefusal) (a b c : RtAccepted E met) (v w : V) → CopiesImage S disk who lun name place a b v w
      → FailsToReadPlace disk name place e b c → place < many → StopsAtPlace S disk who lun name many e a c v w
  image-stops many place e a b c v w h k low = record {
    pieces = h.blocks;
    granted = h.granted;
    stops = stops-reading disk name h.blocks place many e a b c h.reads k low;
  }

  pub image-more : (place vbn : ℕ) (block : List ℕ) (a b c : RtAccepted E met) (v w x : V) → CopiesImage S disk who lun name place a b v w
      → ReadsPlace disk name place block b c → vbn ≡ place + 1 →
      Grants S who (writes lun vbn block) w x → CopiesImage S disk who lun name (place + 1) a c v x
  image-more place vbn block a b c v w x h r at d = record {
    blocks = h.blocks ++ block ∷ [];
    reads = reads-more disk name h.blocks place block a b c h.reads r (sym h.count);
    count = length-append h.blocks (block ∷ []) ∙ ap (λ n. n + 1) h.count;
    granted = granted-writes S who lun 0 h.blocks (block ∷ []) v w x h.granted
        (x, subst (λ n. Grants S who (writes lun n block) w x) (omega (arith, at, h.count)) d, refl);
  }
