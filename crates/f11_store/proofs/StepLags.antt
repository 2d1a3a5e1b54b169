-- The store after a step lags the one before it.
use Rattle.std.proofs.Common.{◌≡◌, ℕ, ◌==◌, ◌||◌, Bool, true, false, List, [], ◌∷◌, Option, Some, None, Ok, Err, fold, unwrap_or}
use Rattle.std.proofs.Common.{if◌then◌else◌, refl, sym, ap, subst, nat_lt}
use Rattle.std.proofs.lemmas.List.Sums.{fold-append}
use Rattle.f11_store.specs.declared.callers.Uic.{Uic}
use Rattle.f11_store.specs.declared.files.FileId.{FileId}
use Rattle.f11_store.specs.declared.requests.Request.{Request}
use Rattle.f11_store.specs.declared.requests.Request.TheVariants as request
use Rattle.f11_store.specs.File.{File}
use Rattle.f11_store.specs.Store.{Store, Access, file_named, id_held, is_accessed}
use Rattle.f11_store.specs.Directory.{index_of_name, index_of_empty, empty_record, entry_count, needs_block, record_bytes}
use Rattle.f11_store.specs.Causes.{first_refusal}
use Rattle.std.specs.List.{range_with_len}
use Rattle.f11_store.specs.Changes.{Changes, with_marked_file, with_delete_mark, with_end_after, with_entry_at_end, EntersAtEnd, EntersAt}
use Rattle.f11_store.specs.Changes.{with_block, with_entry, with_replacement, with_access, is_due, without_file_at, after_giving_up}
use Rattle.f11_store.specs.Changes.{after_deaccess, after_release}
use Rattle.f11_store.specs.Lags.{file_changes, with_parts, with_part, Work, no_work, one_part, go_work, mark_work, end_work, append_work}
use Rattle.f11_store.specs.Lags.{enter_work, give_up_work, deaccess_work, release_work, served_work, work_of, LagsBy}
use Rattle.f11_store.specs.Laws.{NoneHoldsIndex, StepLags}
use Rattle.f11_store.specs.Causes.{is_bad}
use Rattle.f11_store.specs.Changes.{MakesFile, with_slots_first}
use Rattle.f11_store.specs.Moments.{Did}
use Rattle.f11_store.proofs.ContiguousLaws.{laid-out-lags}
use Rattle.f11_store.proofs.ProgressLaws.{did_both, frees_did}
use Rattle.f11_store.specs.Headroom.{slots_first}
use Rattle.f11_store.specs.Lags.{lengthen_work, make_work, new_file_work}
use Rattle.f11_store.proofs.LagLaws.{change_lags, created_lags, cut_lags, did_lags, entered_behind, frees_lags, gone_lags, grown_lags}
use Rattle.f11_store.proofs.LagLaws.{unchanged_lags, work_served}
use Rattle.f11_store.proofs.Respects.{end_respectful}
use Rattle.f11_store.proofs.SlotsFirst.{gained-is-ready, lengthens-did, new-file-stays, no_index, ready-lags}
use Rattle.f11_store.proofs.StoreLemmas.{none_first, none_rest}
use Rattle.f11_store.proofs.Frees.{Frees, frees_change, frees_access, frees_deaccess, frees_release}
use Rattle.f11_store.proofs.Growth.{alike, entry_at_end_alike}

-- two stores have the same files and as many slots
pub record SameFiles (t s : Store) : Type 0 where
  pub files : (n : ℕ) → t.file n ≡ s.file n
  pub slots : t.slots ≡ s.slots

-- the parts of giving up make the files of the store after it
given_up_files :
    (s t : Store) (task lun : ℕ) (o : Option Access) → SameFiles t s →
    SameFiles (with_parts t (give_up_work s task lun o).parts) (after_giving_up s task lun o)
given_up_files s t task lun None h = h
given_up_files s t task lun (Some a) h = by_test (is_due (with_access s task lun None) a.file)
  where
    by_test : (b : Bool) →
        SameFiles (with_parts t (if b then go_work a.file.number else no_work).parts)
        (if b then without_file_at (with_access s task lun None) a.file.number else with_access s task lun None)
    by_test true = record {
      files = λ n. ap (λ (o : Option File). if n == a.file.number then None else o) (h.files n);
      slots = h.slots;
    }
    by_test false = record { files = h.files; slots = h.slots }

-- and so do those of Release
released_files :
    (luns : List ℕ) (s t : Store) (task : ℕ) → SameFiles t s →
    SameFiles (with_parts t (release_work s task luns).parts) (fold (λ u lun. after_deaccess u task lun) s luns)
released_files [] s t task h = h
released_files (lun ∷ luns) s t task h =
    subst (λ (x : Store). SameFiles x (fold (λ u l. after_deaccess u task l) (after_deaccess s task lun) luns))
    (sym (fold-append with_part t (deaccess_work s task lun).parts (release_work (after_deaccess s task lun) task luns).parts))
    (released_files luns (after_deaccess s task lun) (with_parts t (deaccess_work s task lun).parts) task
    (given_up_files s t task lun (s.access task lun) h))

-- what takes nothing and makes the files that the parts make lags
same_files_lag :
    (work : Work) (s t : Store) → SameFiles (with_parts s work.parts) t → Frees s work.is_meant t → LagsBy work t s
same_files_lag work s t same frees =
    frees_lags work s t (λ n. rw same.files (alike (t.file n))) (sym same.slots) frees

-- the same store
same_files : (s : Store) → SameFiles s s
same_files s = record { files = λ n. refl; slots = refl }

-- a new file, once there is a header for it
created_first_lags :
    (s t : Store) (caller : Uic) (word : ℕ) (ident attr : List ℕ) → MakesFile s caller word ident attr t →
    LagsBy (make_work s caller word ident attr) t s
created_first_lags s t caller word ident attr h =
    ready-lags s h.ready t 1 (new_file_work (with_slots_first s 1) caller word ident attr) h.gains (tt, tt)
    (subst (λ (w : Work). LagsBy w t h.ready)
    (new-file-stays s h.ready (slots_first s 1) caller word ident attr (gained-is-ready s h.ready 1 h.gains))
    (subst (λ (x : Store). LagsBy (new_file_work h.ready caller word ident attr) x h.ready) (sym h.makes)
    (created_lags h.ready caller word ident attr)))

-- a record that is entered
entered_lags :
    (o : Option ℕ) (s t : Store) (d : FileId) (r : List ℕ) → (d.number == 1) ≡ false → EntersAt o s d r t → LagsBy (enter_work o s d r) t s
entered_lags (Some i) s t d r other h =
    subst (λ (x : Store). LagsBy (one_part d.number (file_changes d.number (with_entry i r))) x s) (sym h)
    (change_lags s d.number (with_entry i r))
entered_lags None s t d r other h = at_end (needs_block (file_named s d)) h
  where
    i : ℕ
    i = entry_count (file_named s d)

    behind : (u : Store) → Did (end_work d.number i r) (with_entry_at_end u d.number i r) u
    behind u = frees_did (end_work d.number i r) (with_entry_at_end u d.number i r) u
        (entry_at_end_alike u u d.number i r (λ m. alike (u.file m))) refl
        (frees_change u d.number (λ f. with_end_after i (with_entry i r f)))

    at_end : (b : Bool) → EntersAtEnd b s d i r t → LagsBy (append_work b s d i r) t s
    at_end false e = entered_behind s t d i r e
    at_end true (grown, e, k) =
        subst (λ (x : Store). LagsBy (append_work true s d i r) x s) (sym k)
        (did_lags (append_work true s d i r) (with_entry_at_end grown d.number i r) s
        (did_both (lengthen_work s d 1) (end_work d.number i r) (with_entry_at_end grown d.number i r) grown s
        (lengthens-did grown s d 1 other e) refl (end_respectful d.number i r) (behind grown)))

-- the store after a request that is served
served_lags :
    (s : Store) (task : ℕ) (caller : Uic) (r : Request) (block : List ℕ) (t : Store) → NoneHoldsIndex s →
    first_refusal s task caller r ≡ None → Changes s task caller r block t → LagsBy (served_work s task caller r block) t s
served_lags s task caller (request.Create word ident attr) block t apart none h = created_first_lags s t caller word ident attr h
served_lags s task caller (request.Extend lun n) block t apart none h =
    did_lags (lengthen_work s (id_held s task lun) n) t s (lengthens-did t s (id_held s task lun) n (apart task lun) h)
served_lags s task caller (request.Contiguous lun n) block t apart none h = laid-out-lags s t (id_held s task lun) n h
served_lags s task caller (request.Truncate lun to) block t apart none h =
    subst (λ (x : Store). LagsBy (served_work s task caller (request.Truncate lun to) block) x s) (sym h.store_is)
    (cut_lags s (id_held s task lun).number to h.before h.headers h.pointers h.room h.was)
served_lags s task caller (request.Delete id) block t apart none h =
    subst (λ (x : Store). LagsBy (served_work s task caller (request.Delete id) block) x s) (sym h) (by_test (is_accessed s id))
  where
    by_test : (b : Bool) →
        LagsBy (if b then mark_work id.number else go_work id.number)
        (if b then with_marked_file s id.number else without_file_at s id.number) s
    by_test true = change_lags s id.number with_delete_mark
    by_test false = gone_lags s id.number
served_lags s task caller (request.GrowIndex n) block t apart none h = grown_lags s t n h
served_lags s task caller (request.Access id m lun) block t apart none h =
    subst (λ (x : Store). LagsBy no_work x s) (sym h)
    (frees_lags no_work s _ (λ n. alike (s.file n)) refl
    (frees_access s (λ _. false) task lun (Some (record { file = id; mode = m }))))
served_lags s task caller (request.Deaccess lun) block t apart none h =
    subst (λ (x : Store). LagsBy (deaccess_work s task lun) x s) (sym h)
    (same_files_lag (deaccess_work s task lun) s (after_deaccess s task lun)
    (given_up_files s s task lun (s.access task lun) (same_files s)) (frees_deaccess s task lun))
served_lags s task caller request.Release block t apart none h =
    subst (λ (x : Store). LagsBy (release_work s task (range_with_len 0 4)) x s) (sym h)
    (same_files_lag (release_work s task (range_with_len 0 4)) s (after_release s task)
    (released_files (range_with_len 0 4) s s task (same_files s)) (frees_release (range_with_len 0 4) s task))
served_lags s task caller (request.ReadBlock lun vbn) block t apart none h = unchanged_lags no_work s t h
served_lags s task caller (request.WriteBlock lun vbn) block t apart none h =
    subst (λ (x : Store). LagsBy (served_work s task caller (request.WriteBlock lun vbn) block) x s) (sym h)
    (change_lags s (id_held s task lun).number (with_block vbn block))
served_lags s task caller (request.Find d name) block t apart none h = unchanged_lags no_work s t h
served_lags s task caller (request.Enter d name id) block t apart none h =
    entered_lags (index_of_empty (file_named s d)) s t d (record_bytes id name)
    (no_index d (none_first (nat_lt d.number 4) _ _ (none_rest (is_bad d || is_bad id) _ _ none))) h
served_lags s task caller (request.Remove d name) block t apart none h =
    subst (λ (x : Store). LagsBy (served_work s task caller (request.Remove d name) block) x s) (sym h)
    (change_lags s d.number (with_entry (unwrap_or (index_of_name name (file_named s d)) 0) empty_record))
served_lags s task caller (request.ReadAttr id) block t apart none h = unchanged_lags no_work s t h
served_lags s task caller (request.WriteAttr id c) block t apart none h =
    subst (λ (x : Store). LagsBy (served_work s task caller (request.WriteAttr id c) block) x s) (sym h)
    (change_lags s id.number (with_replacement c))
served_lags s task caller request.Space block t apart none h = unchanged_lags no_work s t h

pub step_lags : StepLags
step_lags s task caller r block (Err e) t block' apart h = unchanged_lags (work_of s task caller r block) s t h.store_stays
step_lags s task caller r block (Ok a) t block' apart h =
    subst (λ (w : Work). LagsBy w t s) (sym (work_served s task caller r block h.no_cause))
    (served_lags s task caller r block t apart h.no_cause h.changes)
