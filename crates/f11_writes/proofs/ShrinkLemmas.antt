-- A volume that has lost headers, or has other blocks free.
use Rattle.std.proofs.Common.{ℕ, ◌+◌, ◌<◌, List, sym, ap, subst, ◌∙◌}
use Rattle.std.specs.List.{slice_get}
use Rattle.std.proofs.lemmas.Bool.{false_from_ne_true}
use Rattle.f11_volume.specs.header.Fields.{file_sequence}
use Rattle.f11_volume.specs.map.HeaderBlock.{segment_number, link_of, blocks_named}
use Rattle.f11_index.specs.Headers.{IsInFile}
use Rattle.f11_index.specs.Table.{Table, IsLive, IsFile, IsNext, IsHeaderOf, first, next}
use Rattle.f11_index.proofs.ChainLemmas.{live_of-header}
use Rattle.f11_volume.specs.Sound.{LinksOn, IsSoundVolume}
use Rattle.f11_volume.specs.Volume.{Volume, IsCell, IsLinked}
use Rattle.f11_writes.specs.Volumes.{Shrinks}

module _ (old new : Volume) (s : Shrinks old new) where
  abbrev t : Table
  t = old.table

  abbrev u : Table
  u = new.table

  cell-was : (n place lbn : ℕ) → IsCell u n place lbn → IsCell t n place lbn
  cell-was n place lbn cell = record {
    live = s.live n cell.live;
    names = ap (λ (b : List ℕ). slice_get (blocks_named b) place) (sym (s.same n cell.live)) ∙ cell.names;
  }

  next-was : (n m : ℕ) → IsNext u n m → IsNext t n m
  next-was n m goes =
      let from = s.same n goes.from in
      let to = s.same m goes.to in
      record {
        from = s.live n goes.from;
        to = s.live m goes.to;
        number = ap (λ (b : List ℕ). (link_of b).number) (sym from) ∙ goes.number;
        sequence = ap (λ (b : List ℕ). (link_of b).sequence) (sym from) ∙ goes.sequence ∙ ap file_sequence to;
        segment = ap segment_number (sym to) ∙ goes.segment ∙ ap (λ (b : List ℕ). segment_number b + 1) from;
      }

  file-was : (f : ℕ) → IsFile u f → IsFile t f
  file-was f file = record { live = s.live f file.live; first = ap segment_number (sym (s.same f file.live)) ∙ file.first }

  header-was : (f : ℕ) {n : ℕ} → IsHeaderOf u f n → IsHeaderOf t f n
  header-was f (first file) = first (file-was f file)
  header-was f (next {n} {m} of goes) = next (header-was f of) (next-was n m goes)

  in-file-was : (n : ℕ) → IsInFile u n → IsInFile t n
  in-file-was n is = record { file = is.file; of = header-was is.file is.of }

  -- a next header stays
  next-is : (n m : ℕ) → IsInFile t n → IsLive u n → IsNext t n m → IsNext u n m
  next-is n m in_file live goes =
      let there = s.next n m in_file live goes in
      let from = s.same n live in
      let to = s.same m there in
      record {
        from = live;
        to = there;
        number = ap (λ (b : List ℕ). (link_of b).number) from ∙ goes.number;
        sequence = ap (λ (b : List ℕ). (link_of b).sequence) from ∙ goes.sequence ∙ ap file_sequence (sym to);
        segment = ap segment_number to ∙ goes.segment ∙ ap (λ (b : List ℕ). segment_number b + 1) (sym from);
      }

  -- each header of a file that stays
  header-is : (f : ℕ) {n : ℕ} → IsFile u f → IsHeaderOf t f n → IsHeaderOf u f n
  header-is f file (first was) = first file
  header-is f file (next {n} {m} of goes) =
      let here = header-is f file of in next here (next-is n m (record { file = f; of = of }) (live_of-header here) goes)

  module _ (sound : IsSoundVolume old) where
    links-on : (n : ℕ) → IsLinked u n → LinksOn u n
    links-on n linked =
        let live = live_of-header linked.in_file.of in
        let same = s.same n live in
        let was = in-file-was n linked.in_file in
        let on = sound.links n (record { in_file = was; link = λ none. linked.link (ap (λ (b : List ℕ). (link_of b).number) same ∙ none) })
        in
        record {
          not_last = subst (λ (b : List ℕ). segment_number b < 255) (sym same) on.not_last;
          here = ap (λ (b : List ℕ). (link_of b).volume) same ∙ on.here;
          next = subst (λ (b : List ℕ). IsNext u n (link_of b).number) (sym same) (next-is n _ was live on.next);
        }

    pub shrunk-sound : IsSoundVolume new
    shrunk-sound = record {
      headers = s.headers;
      inside = λ n place lbn cell. subst (λ (k : ℕ). lbn < k) (sym s.size) (sound.inside n place lbn (cell-was n place lbn cell));
      apart = λ n place m other lbn one two. sound.apart n place m other lbn (cell-was n place lbn one) (cell-was m other lbn two);
      taken = λ n place lbn cell. false_from_ne_true _ (λ free.
          let was = sym (s.taken n place lbn cell free) ∙ sound.taken n place lbn (cell-was n place lbn cell) in cc);
      links = links-on;
      once = λ n one other of also goes comes. sound.once n one other (in-file-was one of) (in-file-was other also) (next-was one n goes)
          (next-was other n comes);
    }
