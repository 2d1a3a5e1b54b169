-- Enter by a write of a block and one of attributes.
use Rattle.std.proofs.Common.{◌≡◌, ℕ, ◌+◌, ◌*◌, ◌/◌, ◌||◌, Bool, true, false, not, List, ◌∷◌, Option, Some, None, length, refl, sym, ◌∙◌}
use Rattle.std.proofs.Common.{ap, subst, arith, nat_lt, unwrap_or}
use Rattle.std.proofs.lemmas.List.{length-set}
use Rattle.f11_store.specs.declared.files.FileId.{FileId}
use Rattle.f11_store.specs.declared.refusals.Refusal.{Refusal}
use Rattle.f11_store.specs.declared.requests.Request.TheVariants as request
use Rattle.f11_store.specs.declared.refusals.Refusal.TheVariants.{BadArgument, SystemFile, NoSuchFile, Marked, NoPrivilege, Conflict}
use Rattle.f11_store.specs.declared.refusals.Refusal.TheVariants.{NotDirectory, DuplicateName}
use Rattle.f11_store.specs.declared.protection.Right.TheVariants as right
use Rattle.f11_store.specs.File.{File, is_marked}
use Rattle.f11_store.specs.Store.{Store, file_named, is_held, bars_writing}
use Rattle.f11_store.specs.Directory.{empty_record, index_of_empty, needs_block, is_directory, is_entered, with_record, with_end}
use Rattle.f11_store.specs.Causes.{Cause, ◌⇐◌, is_bad, is_missing, lacks, first_of, extend_causes_if}
use Rattle.f11_store.specs.Changes.{with_change, with_entry, with_end_after, Enters}
use Rattle.f11_store.specs.Lags.{no_work, one_part, file_changes, enter_work, served_work, work_if, LagsBy}
use Rattle.f11_store.proofs.StoreLemmas.{same_number}
use Rattle.f11_entries.specs.Entering.{EnteringFrom, EnteringIn}
use Rattle.f11_entries.proofs.EnteringLemmas.{entering_in_place}
use Rattle.f11_entries.specs.Writing.{put_in, end_put, EnteringByWrites, RoomIsAsked, EnteringInPlaceByWrite, RemovingIsOneWrite}
use Rattle.f11_entries.specs.Writing.{RefusedLagsToo}
use Rattle.f11_store.proofs.ProgressLaws.{same_change, same_change_lags, more_work_lags}
use Rattle.f11_entries.proofs.SeenLemmas.{entry_is_put, named_is_there}

-- two changes that do the same to a file make the same store
pub same_store : (s : Store) (k : ℕ) (f : File) (c e : File → File) → s.file k ≡ Some f → c f ≡ e f → with_change s k c ≡ with_change s k e
same_store s k f c e was same = λ j. record s { file = λ n. same_change s k f c e was same n j }

length-with_record : (blocks : List (List ℕ)) (i : ℕ) (r : List ℕ) → length (with_record blocks i r) ≡ length blocks
unfolding with_record
length-with_record blocks i r = length-set blocks (i / 32) _

-- the end moved by attributes is the end moved
same_end : (g : File) (i : ℕ) (r : List ℕ) → end_put g i (with_entry i r g) ≡ with_end_after i (with_entry i r g)
same_end g i r =
    ap (λ (n : ℕ). record (with_entry i r g) { attr = with_end g.attr n (16 * (i + 1)) }) (sym (length-with_record g.blocks i r))

-- the two changes, one after the other, where the file is this
by_writes :
    (u s : Store) (d : FileId) (g : File) (i : ℕ) (r : List ℕ) (put move : File → File) (o : Option ℕ) → u.file d.number ≡ Some g →
    put g ≡ with_entry i r g → move (with_entry i r g) ≡ with_end_after i (with_entry i r g) → EnteringFrom u s d i r o →
    ((t : Store) → LagsBy (one_part d.number (file_changes d.number put)) t u → LagsBy (enter_work o s d r) t s)
    × ((t : Store) → LagsBy (one_part d.number (file_changes d.number move)) t (with_change u d.number put)
    → LagsBy (enter_work o s d r) t s)
    × Enters s d r (with_change (with_change u d.number put) d.number move)
by_writes u s d g i r put move o was puts moves from = (
  λ t lags. from.entry t (same_change_lags t u d.number g put (with_entry i r) was puts lags),
  λ t lags. from.end t (same_change_lags t v d.number (with_entry i r g) move (with_end_after i) there moves
      (subst (λ (x : Store). LagsBy (one_part d.number (file_changes d.number move)) t x) first lags)),
  subst (λ (x : Store). Enters s d r x)
      (sym (ap (λ (x : Store). with_change x d.number move) first ∙ same_store v d.number (with_entry i r g) move (with_end_after i) there
      moves)) from.enters,
)
  where
    v : Store
    v = with_change u d.number (with_entry i r)

    first : with_change u d.number put ≡ v
    first = same_store u d.number g put (with_entry i r) was puts

    there : v.file d.number ≡ Some (with_entry i r g)
    there = rw (same_number d.number, was) refl

pub entering_by_writes : EnteringByWrites
entering_by_writes u s d number place block r there below is count from =
    let by = by_writes u s d (file_named u d) (32 * number + place) r (put_in number place block r)
    (end_put (file_named u d) (32 * number + place))
    (index_of_empty (file_named s d)) (named_is_there u d there) (sym (entry_is_put (file_named u d) number place block r below is))
    (same_end (file_named u d) (32 * number + place) r)
    (subst (λ (i : ℕ). EnteringFrom u s d i r (index_of_empty (file_named s d))) count from) in
    record { putting = by.0; moving = by.1; enters = by.2 }

-- causes that don't hold are passed
passed :
    (a b c e f g h i : Bool) (rest : List Cause) → a ≡ false → b ≡ false → c ≡ false → e ≡ false → f ≡ false → g ≡ false → h ≡ true
    → i ≡ false →
    first_of ((BadArgument ⇐ a) ∷ (SystemFile ⇐ b) ∷ (NoSuchFile ⇐ c) ∷ (Marked ⇐ e) ∷ (NoPrivilege ⇐ f) ∷ (Conflict ⇐ g)
    ∷ (NotDirectory ⇐ not h) ∷ (DuplicateName ⇐ i) ∷ rest) ≡ first_of rest
passed a b c e f g h i rest pa pb pc pe pf pg ph pi = rw (pa, pb, pc, pe, pf, pg, ph, pi) refl

pub room_is_asked : RoomIsAsked
room_is_asked s task caller d name id may =
    passed (is_bad d || is_bad id) (nat_lt d.number 4) (is_missing s d) (is_marked (file_named s d))
    (lacks right.Write caller (file_named s d))
    (is_held bars_writing s d) (is_directory (file_named s d)) (is_entered name (file_named s d))
    (extend_causes_if (needs_block (file_named s d)) s (file_named s d) 1)
    may.good may.own may.there may.unmarked may.may_write may.unheld may.directory may.new_name

pub entering_in_place_by_write : EnteringInPlaceByWrite
entering_in_place_by_write s d number place block r there below is empty = record {
  putting =
      λ t lags. from.entry t
      (same_change_lags t s d.number (file_named s d) (put_in number place block r) (with_entry (32 * number + place) r)
      (named_is_there s d there) puts lags);
  enters = subst (λ (x : Store). Enters s d r x)
      (sym (same_store s d.number (file_named s d) (put_in number place block r) (with_entry (32 * number + place) r)
      (named_is_there s d there) puts)) from.enters;
}
  where
    from : EnteringIn s d (32 * number + place) r (index_of_empty (file_named s d))
    from = entering_in_place s d (32 * number + place) r empty

    puts : put_in number place block r (file_named s d) ≡ with_entry (32 * number + place) r (file_named s d)
    puts = sym (entry_is_put (file_named s d) number place block r below is)

pub removing_is_one_write : RemovingIsOneWrite
removing_is_one_write s task caller d name number place block unused served there below is first = record {
  putting = λ t lags.
      subst (λ (o : Option Refusal). LagsBy (work_if o (served_work s task caller (request.Remove d name) unused)) t s) (sym served)
      (subst (λ (o : Option ℕ). LagsBy (one_part d.number (file_changes d.number (with_entry (unwrap_or o 0) empty_record))) t s)
      (sym first)
      (same_change_lags t s d.number (file_named s d) (put_in number place block empty_record)
      (with_entry (32 * number + place) empty_record)
      (named_is_there s d there) puts lags));
  removes =
      same_store s d.number (file_named s d) (put_in number place block empty_record) (with_entry (32 * number + place) empty_record)
      (named_is_there s d there) puts
      ∙ ap (λ (o : Option ℕ). with_change s d.number (with_entry (unwrap_or o 0) empty_record)) (sym first);
}
  where
    puts : put_in number place block empty_record (file_named s d) ≡ with_entry (32 * number + place) empty_record (file_named s d)
    puts = sym (entry_is_put (file_named s d) number place block empty_record below is)

pub refused_lags_too : RefusedLagsToo
refused_lags_too None work t s lags = lags
refused_lags_too (Some e) work t s lags = more_work_lags t s no_work work work.parts refl (λ n out. refl) (omega arith) (omega arith) lags
