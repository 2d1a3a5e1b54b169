-- Headers and their files where all slots but one are as they were.
use Rattle.std.proofs.Common.{◌≡◌, ◌≢◌, ◌↔◌, ℕ, ◌+◌, true, false, List, sym, ap, subst, ◌∙◌, inl, inr, arith, Contains}
use Rattle.std.proofs.lemmas.Bool.{cases_eq}
use Rattle.f11_volume.specs.header.Fields.{file_sequence}
use Rattle.f11_volume.specs.header.Header.{IsHeader}
use Rattle.f11_index.specs.ChangeLaws.{IsAsGood, StaysHeader, StayUpTo}
use Rattle.f11_volume.specs.map.HeaderBlock.{segment_number, link_of, blocks_named}
use Rattle.f11_index.specs.Headers.{headers_of, IsInFile}
use Rattle.f11_index.specs.Table.{Table, IsLive, IsFile, IsNext, IsHeaderOf, first, next, IsWholeFile}
use Rattle.f11_index.proofs.ChainLemmas.{live_of-header}
use Rattle.f11_index.proofs.HeadersLemmas.{link_number, live-some, listed-are}
use Rattle.f11_index.proofs.StayLemmas.{whole-stays}
use Rattle.f11_volume.specs.chain.FileHeaders.{file_blocks}
use Rattle.f11_volume.specs.chain.Laws.{StayBefore}
use Rattle.f11_volume.proofs.chain.ChangeLemmas.{file-stays}
use Rattle.f11_volume.specs.Earlier.{IsNamedIn}
use Rattle.f11_volume.specs.Faults.{IsOwnFile}
use Rattle.f11_volume.specs.Sound.{IsSoundVolume}
use Rattle.f11_volume.specs.Volume.{Volume}
use Rattle.f11_writes.specs.OtherSlots.{KeepsOtherSlots}

-- the headers of a file before one, where all other slots are as they were
pub stay-before : (old new : Table) (f n : ℕ) → KeepsOtherSlots n old new → StayBefore f n old new
stay-before old new f n others m of below =
    others.header m (λ same. omega (arith, below, ap (λ (k : ℕ). segment_number (old.header k)) same)) (live_of-header of).in_use

pub stay-up-to : (old new : Table) (f n : ℕ) → IsHeaderOf old f n → KeepsOtherSlots n old new → IsAsGood old new n → StayUpTo f n old new
stay-up-to old new f n last others good = record {
  good = λ m of up. elim (cases_eq m n) [
    | inl here ↦ subst (IsAsGood old new) (sym here) good
    | inr away ↦
        let live = live_of-header of in
        let same = others.header m away live.in_use in
        record {
          in_use = others.in_use m away ∙ live.in_use;
          valid = subst (λ (b : List ℕ). IsHeader b m) (sym same) live.valid;
          sequence = ap file_sequence same;
          segment = ap segment_number same;
        }
  ];
  links = λ m of below. ap link_of (stay-before old new f n others m of below);
}

-- the first header of one of the volume's own files
pub own-first : (t u : Table) (n f : ℕ) → KeepsOtherSlots n t u → f ≢ n → IsOwnFile t f → IsOwnFile u f
own-first t u n f others away own =
    let same = others.header f away own.file.live.in_use in
    record {
      file = record {
        live = record {
          in_use = others.in_use f away ∙ own.file.live.in_use;
          valid = subst (λ (b : List ℕ). IsHeader b f) (sym same) own.file.live.valid;
        };
        first = ap segment_number same ∙ own.file.first;
      };
      sequence = ap file_sequence same ∙ own.sequence;
    }

-- the headers of a file that header n isn't one of
module _ (t u : Table) (n f : ℕ) (others : KeepsOtherSlots n t u) (whole : IsWholeFile t f) (away : ¬ IsHeaderOf t f n) where
  pub same-header : (m : ℕ) → IsHeaderOf t f m → u.header m ≡ t.header m
  same-header m of = others.header m (λ is. away (subst (IsHeaderOf t f) is of)) (live_of-header of).in_use

  each-stays : (m : ℕ) → IsHeaderOf t f m → StaysHeader t u m
  each-stays m of =
      let same = same-header m of in
      record {
        good = record {
          in_use = others.in_use m (λ is. away (subst (IsHeaderOf t f) is of)) ∙ (live_of-header of).in_use;
          valid = subst (λ (b : List ℕ). IsHeader b m) (sym same) (live_of-header of).valid;
          sequence = ap file_sequence same;
          segment = ap segment_number same;
        };
        link = ap link_of same;
      }

  pub file-kept : IsWholeFile u f × ((m : ℕ) → IsHeaderOf u f m ↔ IsHeaderOf t f m)
  file-kept = whole-stays t u f whole each-stays

  pub listed-same : (m : ℕ) → Contains (headers_of t f) m → u.header m ≡ t.header m
  listed-same m listed = same-header m (listed-are t f m whole listed)

  pub headers-kept : headers_of u f ≡ headers_of t f
  headers-kept = (file-stays t u f listed-same).0

  pub blocks-kept : file_blocks u f ≡ file_blocks t f
  blocks-kept = (file-stays t u f listed-same).1

  pub own-kept : IsOwnFile t f → IsOwnFile u f
  own-kept own = own-first t u n f others (λ here. away (subst (IsHeaderOf t f) here (first whole.file))) own

  pub named-kept : (lbn : ℕ) → IsNamedIn t f lbn → IsNamedIn u f lbn
  named-kept lbn (m, of, has) =
      (m, (file-kept.1 m).1 of, subst (λ (b : List ℕ). Contains (blocks_named b) lbn) (sym (same-header m of)) has)

-- the other way round
pub turned : (t u : Table) (n : ℕ) → KeepsOtherSlots n t u → KeepsOtherSlots n u t
turned t u n others = record {
  in_use = λ m away. sym (others.in_use m away);
  header = λ m away used. sym (others.header m away (sym (others.in_use m away) ∙ used));
}

-- a link of 0 leads to no header
pub nowhere : {t : Table} {n m : ℕ} → link_number t n ≡ 0 → IsNext t n m → ⊥
nowhere zero_is goes = omega (arith, zero_is, goes.number, live-some goes.to)

-- a header of another slot that is in use now
module _ (t u : Table) (n : ℕ) (others : KeepsOtherSlots n t u) where
  pub same-now : (m : ℕ) → m ≢ n → u.in_use m ≡ true → u.header m ≡ t.header m
  same-now m away used = others.header m away (sym (others.in_use m away) ∙ used)

  pub live-was : (m : ℕ) → m ≢ n → IsLive u m → IsLive t m
  live-was m away live = record {
    in_use = sym (others.in_use m away) ∙ live.in_use;
    valid = subst (λ (b : List ℕ). IsHeader b m) (same-now m away live.in_use) live.valid;
  }

  pub file-was : (f : ℕ) → f ≢ n → IsFile u f → IsFile t f
  file-was f away file =
      record { live = live-was f away file.live; first = ap segment_number (sym (same-now f away file.live.in_use)) ∙ file.first }

  pub next-was : (a b : ℕ) → a ≢ n → b ≢ n → IsNext u a b → IsNext t a b
  next-was a b away too goes =
      let from = same-now a away goes.from.in_use in
      let to = same-now b too goes.to.in_use in
      record {
        from = live-was a away goes.from;
        to = live-was b too goes.to;
        number = ap (λ (h : List ℕ). (link_of h).number) (sym from) ∙ goes.number;
        sequence = ap (λ (h : List ℕ). (link_of h).sequence) (sym from) ∙ goes.sequence ∙ ap file_sequence to;
        segment = ap segment_number (sym to) ∙ goes.segment ∙ ap (λ (h : List ℕ). segment_number h + 1) from;
      }

  -- where header n isn't live
  pub header-was : (f : ℕ) {m : ℕ} → ¬ IsLive u n → IsHeaderOf u f m → IsHeaderOf t f m
  header-was f gone (first file) = first (file-was f (λ here. gone (subst (IsLive u) here file.live)) file)
  header-was f gone (next {n = a} {m = b} of goes) =
      next (header-was f gone of)
      (next-was a b (λ here. gone (subst (IsLive u) here goes.from)) (λ here. gone (subst (IsLive u) here goes.to)) goes)

  -- where it links to none, the others of a file were in one
  pub in-file-was : (f : ℕ) {m : ℕ} → link_number u n ≡ 0 → m ≢ n → IsHeaderOf u f m → IsInFile t m
  in-file-was f none away (first file) = record { file = f; of = first (file-was f away file) }
  in-file-was f none away (next {n = a} {m = b} of goes) =
      let before : a ≢ n = λ here. nowhere (ap (link_number u) here ∙ none) goes in
      let was = in-file-was f none before of in
      record { file = was.file; of = next was.of (next-was a b before away goes) }

pub entered-unlinked : (old new : Volume) (n m : ℕ) → IsSoundVolume old → KeepsOtherSlots n old.table new.table → old.table.in_use n ≡ false
    → link_number new.table n ≡ 0
    → IsInFile new.table m → ¬ IsNext new.table m n
entered-unlinked old new n m sound others unused none in_file goes =
    let away : m ≢ n = λ here. nowhere (ap (link_number new.table) here ∙ none) goes in
    let was = in-file-was old.table new.table n others in_file.file none away in_file.of in
    let to : link_number old.table m ≡ n =
    ap (λ (b : List ℕ). (link_of b).number) (sym (same-now old.table new.table n others m away goes.from.in_use)) ∙ goes.number in
    let on = sound.links m (record { in_file = was; link = λ zero_is. omega (arith, zero_is, to, live-some goes.to) }) in
    let used : old.table.in_use n ≡ true = subst (λ (k : ℕ). old.table.in_use k ≡ true) to on.next.to.in_use in
    let no_use = sym unused ∙ used in cc
