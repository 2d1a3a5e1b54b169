use Rattle.std.proofs.Common.{◌≡◌, ◌∙◌, ◌+◌, ◌*◌, ◌++◌, ◌<◌, List, ℕ, length, ap, sym, subst, arith}
use Rattle.std.specs.Prelude.{slice_set}
use Rattle.std.proofs.lemmas.List.{length-set}
use Rattle.f11_dev.specs.Disk.{Disk}
use Rattle.f11_dev.specs.Image.{Image, image_block}
use Rattle.f11_dev.proofs.ImageLemmas.{image_block-written, image_block-other}
use Rattle.f11_dev.proofs.WentLemmas.{went_write, went_failed_write, went_more, went_within}
use Rattle.rt11_volume.specs.InHand.{KeepsOthers}
use Rattle.rt11_volume.specs.Segment.{segment_words, words_in}
use Rattle.rt11_volume.proofs.FreshLemmas.{OnErr-given}
use Rattle.rt11_volume.proofs.segment.Segment.write.Goals as goal

-- the first block, and the second
kept_first : (k lbn : ℕ) (image : Image) (block : List ℕ) → lbn ≡ 4 + 2 * k → KeepsOthers k image (slice_set image lbn block)
kept_first k lbn image block is = λ other apart behind. image_block-other image lbn other block (λ same. apart (same ∙ is))

kept_second : (k lbn : ℕ) (old now : Image) (block : List ℕ) → lbn ≡ 4 + 2 * k + 1 → KeepsOthers k old now
    → KeepsOthers k old (slice_set now lbn block)
kept_second k lbn old now block is keeps =
    λ other apart behind. image_block-other now lbn other block (λ same. behind (same ∙ is)) ∙ keeps other apart behind

-- the words of both
words_written : (k first : ℕ) (old mid new : Image) (low high : List ℕ) → first ≡ 4 + 2 * k → 4 + 2 * k + 1 < length old
    → mid ≡ slice_set old first low → new ≡ slice_set mid (first + 1) high
    → segment_words new k ≡ words_in (low ++ high)
unfolding segment_words
words_written k first old mid new low high place within one two =
    let lower : image_block new (4 + 2 * k) ≡ low =
    ap (λ (i : Image). image_block i (4 + 2 * k)) two
    ∙ image_block-other mid (first + 1) (4 + 2 * k) high (λ same. omega (arith, same, place))
    ∙ ap (λ (i : Image). image_block i (4 + 2 * k)) one ∙ ap (image_block (slice_set old first low)) (sym place)
    ∙ image_block-written old first low (omega (arith, place, within)) in
    let size : length mid ≡ length old = ap (λ (i : Image). length i) one ∙ length-set old first low in
    let higher : image_block new (4 + 2 * k + 1) ≡ high =
    ap (λ (i : Image). image_block i (4 + 2 * k + 1)) two
    ∙ ap (image_block (slice_set mid (first + 1) high)) (let p : 4 + 2 * k + 1 ≡ first + 1 = omega (arith, place) in p)
    ∙ image_block-written mid (first + 1) high (omega (arith, place, within, size)) in
    λ i. words_in (lower i ++ higher i)

pub returns-in_err-write-clause-failed : goal.returns-in_err-write-clause-failed
returns-in_err-write-clause-failed g c =
    let old = g.D.Device.disk c.args.device.now in
    let P = KeepsOthers c.args.k old.image in
    let lbn = 4 + 2 * c.from.result in
    let place : lbn ≡ 4 + 2 * c.args.k = ap (λ n. 4 + 2 * n) c.from.ensures in
    OnErr-given _ _ (went_within P
    (went_failed_write P old _ lbn _ c.in_err-write.ensures.writes.err (kept_first c.args.k lbn old.image _ place)) (omega arith))

pub returns-in_err-write-2-clause-failed : goal.returns-in_err-write-2-clause-failed
returns-in_err-write-2-clause-failed g c =
    let old = g.D.Device.disk c.args.device.now in
    let now = g.D.Device.disk c.write.new.self in
    let P = KeepsOthers c.args.k old.image in
    let lbn = 4 + 2 * c.from.result in
    let place : lbn ≡ 4 + 2 * c.args.k = ap (λ n. 4 + 2 * n) c.from.ensures in
    let image = ap (λ (d : Disk). d.image) c.in_ok-write.ensures.writes.ok in
    let first = went_write P old _ lbn _ c.in_ok-write.ensures.writes.ok (kept_first c.args.k lbn old.image _ place) in
    let mid = subst P (sym image) (kept_first c.args.k lbn old.image _ place) in
    OnErr-given _ _ (went_more P first
    (went_failed_write P now _ (lbn + 1) _ c.in_err-write-2.ensures.writes.err
    (kept_second c.args.k (lbn + 1) old.image now.image _ (omega (arith, place)) mid)))

pub returns-clause-written : goal.returns-clause-written
returns-clause-written g c =
    let old = g.D.Device.disk c.args.device.now in
    let now = g.D.Device.disk c.write.new.self in
    let P = KeepsOthers c.args.k old.image in
    let lbn = 4 + 2 * c.from.result in
    let place : lbn ≡ 4 + 2 * c.args.k = ap (λ n. 4 + 2 * n) c.from.ensures in
    let one = ap (λ (d : Disk). d.image) c.in_ok-write.ensures.writes.ok in
    let two = ap (λ (d : Disk). d.image) c.in_ok-write-2.ensures.writes.ok in
    let first = went_write P old _ lbn _ c.in_ok-write.ensures.writes.ok (kept_first c.args.k lbn old.image _ place) in
    let mid = subst P (sym one) (kept_first c.args.k lbn old.image _ place) in
    let last = kept_second c.args.k (lbn + 1) old.image now.image _ (omega (arith, place)) mid in
    record {
      words_are = words_written c.args.k lbn old.image now.image _ _ _ place c.requires one two ∙ c.self.view_is;
      kept = subst P (sym two) last;
      went = went_more P first (went_write P now _ (lbn + 1) _ c.in_ok-write-2.ensures.writes.ok last);
    }
