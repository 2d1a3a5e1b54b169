-- What stands while a record is entered.
use Rattle.std.proofs.Common.{◌≡◌, ℕ, ◌+◌, ◌-◌, ◌*◌, ◌/◌, ◌%◌, get_or, set, ◌==◌, ◌||◌, Bool, true, false, List, [], ◌∷◌, Option}
use Rattle.std.proofs.Common.{Some, None, option_map, if◌then◌else◌, refl, sym, ◌∙◌, ap, subst, arith, append_assoc}
use Rattle.std.proofs.lemmas.List.{append-nil}
use Rattle.std.proofs.lemmas.Bool.{or_parts}
use Rattle.f11_store.specs.declared.files.FileId.{FileId}
use Rattle.f11_store.specs.declared.refusals.Refusal.{Refusal}
use Rattle.f11_store.specs.declared.requests.Request.TheVariants as request
use Rattle.f11_store.specs.File.{File}
use Rattle.f11_store.specs.Store.{Store, file_named}
use Rattle.f11_store.specs.Directory.{index_of_empty, entry_count, needs_block, with_bytes, with_record}
use Rattle.f11_store.specs.Changes.{with_change, with_entry, with_end_after, EntersAtEnd, EntersAt, Enters}
use Rattle.f11_store.specs.Lags.{file_changes, Work, no_work, one_part, and_then, lengthen_work, end_work, append_work, enter_work}
use Rattle.f11_store.specs.Lags.{served_work, work_if, LagsBy}
use Rattle.f11_store.specs.Moments.{Respects, Did}
use Rattle.f11_entries.specs.Entering.{EnteringInPlace, EnteringAtEnd, EnteringInNewBlock, EnterLags, EntryIsBlock, EndIsAttr}
use Rattle.f11_store.proofs.ProgressLaws.{more_work_lags, lags_after, did_both, change_did, nothing_did}
use Rattle.f11_store.proofs.Respects.{end_respects, entry_respects}
use Rattle.f11_store.proofs.SlotsFirst.{lengthens-did}
use Rattle.f11_store.proofs.StoreLemmas.{same_number}

pub entering_in_place : EnteringInPlace
entering_in_place s d i r place = record {
  entry = λ t lags. subst (λ (o : Option ℕ). LagsBy (enter_work o s d r) t s) (sym place) lags;
  enters = subst (λ (o : Option ℕ). EntersAt o s d r (with_change s d.number (with_entry i r))) (sym place) refl;
}

-- two changes in turn are one
pub two_changes : (s : Store) (k : ℕ) (c e : File → File) → with_change (with_change s k c) k e ≡ with_change s k (λ f. e (c f))
two_changes s k c e = λ j. record s { file = λ n. same n j }
  where
    by_test : (b : Bool) (o v : Option File) →
        (if b then option_map e (option_map c o) else if b then option_map c o else v)
        ≡ (if b then option_map {T = File} {U = File} (λ f. e (c f)) o else v)
    by_test true None v = refl
    by_test true (Some f) v = refl
    by_test false o v = refl

    same : (n : ℕ) → (with_change (with_change s k c) k e).file n ≡ (with_change s k (λ f. e (c f))).file n
    same n = rw (same_number k) (by_test (n == k) (s.file k) (s.file n))

-- the two writes, each as work
abbrev entry_work : ℕ → ℕ → List ℕ → Work
entry_work k i r = one_part k (file_changes k (with_entry i r))

abbrev move_work : ℕ → ℕ → Work
move_work k i = one_part k (file_changes k (with_end_after i))

-- while the block is written, after some work
entry_lags :
    (w : Work) (t u s : Store) (k i : ℕ) (r : List ℕ) → Did w u s → LagsBy (entry_work k i r) t u → LagsBy (and_then w (end_work k i r)) t s
entry_lags w t u s k i r did lags =
    more_work_lags t s (and_then w (entry_work k i r)) (and_then w (end_work k i r)) (file_changes k (with_end_after i) ∷ [])
    (sym (append_assoc w.parts (file_changes k (with_entry i r) ∷ []) (file_changes k (with_end_after i) ∷ [])))
    (λ n out. out) (omega arith) (omega arith)
    (lags_after w (entry_work k i r) t u s did refl (entry_respects i r, tt) lags)

-- while the header is written
move_lags :
    (w : Work) (t u s : Store) (k i : ℕ) (r : List ℕ) → Did w u s → LagsBy (move_work k i) t (with_change u k (with_entry i r)) →
    LagsBy (and_then w (end_work k i r)) t s
move_lags w t u s k i r did lags =
    more_work_lags t s (and_then (and_then w (entry_work k i r)) (move_work k i)) (and_then w (end_work k i r)) []
    (sym (append-nil _ ∙ append_assoc w.parts (file_changes k (with_entry i r) ∷ []) (file_changes k (with_end_after i) ∷ [])))
    (λ n out. twice (w.is_meant n) (n == k) out) (omega arith) (omega arith)
    (lags_after (and_then w (entry_work k i r)) (move_work k i) t (with_change u k (with_entry i r)) s
    (did_both w (entry_work k i r) (with_change u k (with_entry i r)) u s did refl (entry_respects i r, tt)
    (change_did u k (with_entry i r)))
    refl (end_respects i, tt) lags)
  where
    twice : (a b : Bool) → (a || b) ≡ false → ((a || b) || b) ≡ false
    twice true b h = absurd (cc)
    twice false true h = absurd (cc)
    twice false false h = refl

pub enter_lags : EnterLags
enter_lags t s task caller d name id block served lags =
    subst (λ (o : Option Refusal). LagsBy (work_if o (served_work s task caller (request.Enter d name id) block)) t s) (sym served) lags

pub entry_is_block : EntryIsBlock
unfolding with_record
entry_is_block f i r =
    let e : i / 32 + 1 - 1 ≡ i / 32 = omega arith in
    ap (λ (n : ℕ). record f { blocks = set f.blocks n (with_bytes (get_or f.blocks (i / 32) []) (16 * (i % 32)) r) }) e

pub end_is_attr : EndIsAttr
end_is_attr f i = refl

-- the work of Enter where no record is empty
work_at_end :
    (s t : Store) (d : FileId) (r : List ℕ) (b : Bool) → index_of_empty (file_named s d) ≡ None → needs_block (file_named s d) ≡ b →
    LagsBy (append_work b s d (entry_count (file_named s d)) r) t s → LagsBy (enter_work (index_of_empty (file_named s d)) s d r) t s
work_at_end s t d r b none needs lags =
    subst (λ (o : Option ℕ). LagsBy (enter_work o s d r) t s) (sym none)
    (subst (λ (x : Bool). LagsBy (append_work x s d (entry_count (file_named s d)) r) t s) (sym needs) lags)

-- and its end
enters_at_end :
    (s t : Store) (d : FileId) (r : List ℕ) (b : Bool) → index_of_empty (file_named s d) ≡ None → needs_block (file_named s d) ≡ b →
    EntersAtEnd b s d (entry_count (file_named s d)) r t → Enters s d r t
enters_at_end s t d r b none needs enters =
    subst (λ (o : Option ℕ). EntersAt o s d r t) (sym none)
    (subst (λ (x : Bool). EntersAtEnd x s d (entry_count (file_named s d)) r t) (sym needs) enters)

pub entering_at_end : EnteringAtEnd
entering_at_end s d r none room = record {
  entry = λ t lags. work_at_end s t d r false none room (entry_lags no_work t s s d.number i r (nothing_did s) lags);
  end = λ t lags. work_at_end s t d r false none room (move_lags no_work t s s d.number i r (nothing_did s) lags);
  enters = enters_at_end s (with_change (with_change s d.number (with_entry i r)) d.number (with_end_after i)) d r false none room
      (two_changes s d.number (with_entry i r) (with_end_after i));
}
  where
    i : ℕ
    i = entry_count (file_named s d)

pub entering_in_new_block : EnteringInNewBlock
entering_in_new_block s d r other none needs = (
  λ t lags. work_at_end s t d r true none needs
      (more_work_lags t s extending (and_then extending (end_work d.number i r)) (end_work d.number i r).parts refl
      (λ n out. (or_parts (extending.is_meant n) (n == d.number) out).0) (omega arith) (omega arith) lags),
  λ grown grows. record {
    entry = λ t lags. work_at_end s t d r true none needs
        (entry_lags extending t grown s d.number i r (lengthens-did grown s d 1 other grows) lags);
    end = λ t lags. work_at_end s t d r true none needs
        (move_lags extending t grown s d.number i r (lengthens-did grown s d 1 other grows) lags);
    enters = enters_at_end s (with_change (with_change grown d.number (with_entry i r)) d.number (with_end_after i)) d r true none needs
        (grown, grows, two_changes grown d.number (with_entry i r) (with_end_after i));
  },
)
  where
    i : ℕ
    i = entry_count (file_named s d)

    extending : Work
    extending = lengthen_work s d 1
