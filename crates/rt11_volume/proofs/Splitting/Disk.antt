-- What a split does to a disk.
use Rattle.std.proofs.Common.{ℕ, List, refl, ◌∙◌}
use Rattle.f11_dev.specs.Disk.{Disk}
use Rattle.f11_dev.specs.Image.{Image}
use Rattle.f11_dev.specs.Went.{Went}
use Rattle.f11_dev.proofs.WentLemmas.{went_more, went_weaker}
use Rattle.rt11_volume.specs.InHand.{KeepsOthers, WritesSegment}
use Rattle.rt11_volume.specs.Rewriting.Split.{IsApart, KeepsSplit, WritesFirst}

-- one more segment was written, which is one of the three
kept-split : (k number j : ℕ) (old mid image : Image) → ((lbn : ℕ) → IsApart lbn 1 → IsApart lbn k → IsApart lbn number → IsApart lbn j)
    → KeepsSplit k number old mid → KeepsOthers j mid image → KeepsSplit k number old image
kept-split k number j old mid image which before kept = λ lbn a b c. let x = which lbn a b c in kept lbn x.low x.high ∙ before lbn a b c

-- one, two and three segments were written
one-written : (k number : ℕ) (back : List ℕ) {old one : Disk} → WritesSegment number back old one
    → Went (KeepsSplit k number old.image) old one 2 0 × KeepsSplit k number old.image one.image
one-written k number back {old = old} wrote =
    let keeps = λ (image : Image) (kept : KeepsOthers number old.image image). kept-split k number number old.image old.image image
    (λ lbn a b c. c) (λ lbn a b c. refl) kept in
    (went_weaker (KeepsOthers number old.image) (KeepsSplit k number old.image) keeps wrote.went, keeps _ wrote.kept)

pub two-written : (k number faults : ℕ) (back : List ℕ) {old one two : Disk} → WritesSegment number back old one
    → Went (KeepsOthers 1 one.image) one two 2 faults → Went (KeepsSplit k number old.image) old two 4 faults
two-written k number faults back {old = old} {one = one} wrote went =
    let first = one-written k number back wrote in
    let P = KeepsSplit k number old.image in
    went_more P first.0 (went_weaker (KeepsOthers 1 one.image) P
    (λ image. kept-split k number 1 old.image one.image image (λ lbn a b c. a) first.1) went)

pub three-written : (k number faults : ℕ) (back first : List ℕ) {old one two new : Disk} → WritesSegment number back old one
    → WritesFirst k first one two → Went (KeepsOthers k two.image) two new 2 faults
    → Went (KeepsSplit k number old.image) old new 6 faults
three-written k number faults back first {old = old} {one = one} {two = two} wrote second went =
    let kept = kept-split k number 1 old.image one.image two.image (λ lbn a b c. a) (one-written k number back wrote).1 second.kept in
    let P = KeepsSplit k number old.image in
    went_more P (two-written k number 0 back wrote second.went)
    (went_weaker (KeepsOthers k two.image) P (λ image. kept-split k number k old.image two.image image (λ lbn a b c. b) kept) went)

pub all-kept : (k number : ℕ) (back first front : List ℕ) {old one two new : Disk} → WritesSegment number back old one
    → WritesFirst k first one two → WritesSegment k front two new → KeepsSplit k number old.image new.image
all-kept k number back first front {old = old} {one = one} {two = two} {new = new} wrote second third =
    let kept = kept-split k number 1 old.image one.image two.image (λ lbn a b c. a) (one-written k number back wrote).1 second.kept in
    kept-split k number k old.image two.image new.image (λ lbn a b c. b) kept third.kept
