-- What only reads leaves all files as they are: where it is granted, where it is refused, and where it is stopped.
use Rattle.std.proofs.Common.{◌≡◌, ◌⊎◌, inl, inr, ℕ, ◌==◌, ◌&&◌, not, Bool, true, false, List, [], ◌∷◌, All}
use Rattle.std.proofs.Common.{Option, Some, None, Result, Ok, Err, is_some, refl, sym, ap, subst, ◌∙◌, nat_lt, if◌then◌else◌}
use Rattle.std.specs.Prelude.{unwrap_or}
use Rattle.std.specs.Option.{option_and_then}
use Rattle.std.proofs.lemmas.List.Elements.{All-head, All-tail}
use Rattle.f11_making.specs.Asking.{Asking, Denies, Grants, Tried, asks, counts, plain, reads, told, writes}
use Rattle.f11_making.specs.AsksFor.{is_reading, is_reading_request}
use Rattle.f11_runs.proofs.AccessLemmas.{true-false}
use Rattle.f11_store.proofs.StoreLemmas.{none_first, none_rest}
use Rattle.f11_store.specs.Causes.{first_refusal, is_bad, is_missing}
use Rattle.f11_store.specs.Changes.{Changes, after_giving_up, is_due, with_access, without_file_at}
use Rattle.f11_store.specs.File.{File, is_marked, no_file}
use Rattle.f11_store.specs.Lags.{give_up_work, go_work, no_work, served_work, work_of}
use Rattle.f11_store.specs.Step.{Step}
use Rattle.f11_store.specs.Store.{Access, Store, file_named, is_accessed, of_sequence}
use Rattle.f11_store.specs.declared.refusals.Refusal.{Refusal}
use Rattle.f11_store.specs.declared.refusals.Refusal.TheVariants.{BadArgument, LunInUse, Marked, NoSuchFile, SystemFile}
use Rattle.f11_store.specs.declared.requests.Reply.{Reply}
use Rattle.f11_store.specs.declared.requests.Request.{Request}
use Rattle.f11_store.specs.declared.requests.Request.TheVariants as request
use Rattle.f11_commands.proofs.OthersLemmas.{if-served}
use Rattle.f11_commands.specs.Copying.{operator}
use Rattle.f11_commands.specs.Stopping.{IsStopped, IsUnheld, KeepsFiles, LagsAsked, in_part, not_begun}

-- what is held is nothing, or an access to a file that isn't marked for delete
abbrev IsUnmarkedIn : (ℕ → Option File) → Option Access → Type 0
IsUnmarkedIn files None = Unit {0}
IsUnmarkedIn files (Some a) =
    is_marked (unwrap_or (option_and_then (of_sequence a.file.sequence) (files a.file.number)) no_file) ≡ false

abbrev HoldsUnmarked : Store → Type 0
HoldsUnmarked u = (task lun : ℕ) → IsUnmarkedIn u.file (u.access task lun)

-- A store has the files of one before, and nothing is held but files that aren't marked.
record StaysAs (s u : Store) : Type 0 where
  pub files : KeepsFiles s u
  pub held : HoldsUnmarked u

-- such a file doesn't go where its access is given up
undue : (u : Store) (lun : ℕ) (a : Access) → IsUnmarkedIn u.file (Some a) → is_due (with_access u operator.task lun None) a.file ≡ false
undue u lun a h = ap (λ b. b && not (is_accessed (with_access u operator.task lun None) a.file)) h

-- an access is taken or given up
held-now : (s u : Store) (lun : ℕ) (o : Option Access) → StaysAs s u → IsUnmarkedIn u.file o → StaysAs s (with_access u operator.task lun o)
held-now s u lun o k h = record { files = k.files; held = λ t l. by t l ((t == operator.task) && (l == lun)) }
  where
    by : (t l : ℕ) (b : Bool) → IsUnmarkedIn u.file (if b then o else u.access t l)
    by t l true = h
    by t l false = k.held t l

given-back : (s u : Store) (lun : ℕ) (o : Option Access) → StaysAs s u → IsUnmarkedIn u.file o
    → StaysAs s (after_giving_up u operator.task lun o)
given-back s u lun None k h = k
given-back s u lun (Some a) k h =
    subst (StaysAs s) (sym (ap (λ b. if b then without_file_at v a.file.number else v) (undue u lun a h))) (held-now s u lun None k tt)
  where
    v : Store
    v = with_access u operator.task lun None

-- a request that reads
read-step : (s : Store) (r : Request) (lent given : List ℕ) (result : Result Reply Refusal) (u w : Store) → is_reading_request r ≡ true
    → StaysAs s u → Step u operator.task operator.caller r lent result w given → StaysAs s w
read-step s r lent given (Err e) u w is k h = subst (StaysAs s) (sym h.store_stays) k
read-step s r lent given (Ok a) u w is k h = changed r is h.no_cause h.changes
  where
    changed : (r : Request) → is_reading_request r ≡ true → first_refusal u operator.task operator.caller r ≡ None
        → Changes u operator.task operator.caller r lent w → StaysAs s w
    changed (request.Access id m lun) is none c =
        subst (StaysAs s) (sym c) (held-now s u lun (Some (record { file = id; mode = m })) k
        (none_first (is_marked (file_named u id)) Marked _ (none_rest (is_missing u id) NoSuchFile _
        (none_rest (nat_lt id.number 4) SystemFile _ (none_rest (is_some (u.access operator.task lun)) LunInUse _
        (none_rest (is_bad id) BadArgument _ none))))))
    changed (request.ReadAttr id) is none c = subst (StaysAs s) (sym c) k
    changed (request.Deaccess lun) is none c =
        subst (StaysAs s) (sym c) (given-back s u lun (u.access operator.task lun) k (k.held operator.task lun))
    changed _ is none c = absurd (true-false (sym is))

-- whatever is asked, granted or refused
asked-step : (s : Store) (x : Asking) (u w : Store) → is_reading x ≡ true → StaysAs s u
    → (Grants plain operator x u w) ⊎ ((e : Refusal) × Denies plain operator x e u w) → StaysAs s w
asked-step s (asks r) u w is k (inl g) = read-step s r g.0 g.2 (Ok g.1) u w is k g.3
asked-step s (asks r) u w is k (inr d) = read-step s r d.1.0 d.1.1 (Err d.0) u w is k d.1.2
asked-step s (told r a) u w is k (inl g) = read-step s r g.0 g.1 (Ok a) u w is k g.2
asked-step s (told r a) u w is k (inr d) = read-step s r d.1.0 d.1.1 (Err d.0) u w is k d.1.2
asked-step s (reads lun vbn block) u w is k (inl g) = subst (StaysAs s) (sym g.2.changes) k
asked-step s (reads lun vbn block) u w is k (inr d) = subst (StaysAs s) (sym d.1.2.store_stays) k
asked-step s (counts lun blocks) u w is k (inl g) = subst (StaysAs s) (sym g.2) k
asked-step s (counts lun blocks) u w is k (inr d) = subst (StaysAs s) (sym d.1.2) k
asked-step s (writes lun vbn block) u w is k h = absurd (true-false (sym is))

all-steps : (s : Store) (xs : List Asking) (u w : Store) → All (λ x. is_reading x ≡ true) xs → StaysAs s u → Tried plain operator xs u w
    → StaysAs s w
all-steps s [] u w only k h = subst (StaysAs s) (sym h) k
all-steps s (x ∷ xs) u w only k h =
    all-steps s xs h.0 w (All-tail (λ y. is_reading y ≡ true) x xs only)
    (asked-step s x u h.0 (All-head (λ y. is_reading y ≡ true) x xs only) k h.1) h.2

-- a request that reads means no file
unmeant : (r : Request) (lent : List ℕ) (u : Store) (n : ℕ) → is_reading_request r ≡ true → HoldsUnmarked u
    → (work_of u operator.task operator.caller r lent).is_meant n ≡ false
unmeant r lent u n is held =
    if-served n (first_refusal u operator.task operator.caller r) (served_work u operator.task operator.caller r lent) (λ none. served r is)
  where
    given-up : (lun : ℕ) (o : Option Access) → IsUnmarkedIn u.file o → (give_up_work u operator.task lun o).is_meant n ≡ false
    given-up lun None h = refl
    given-up lun (Some a) h = ap (λ b. (if b then go_work a.file.number else no_work).is_meant n) (undue u lun a h)

    served : (r : Request) → is_reading_request r ≡ true → (served_work u operator.task operator.caller r lent).is_meant n ≡ false
    served (request.Access id m lun) is = refl
    served (request.ReadAttr id) is = refl
    served (request.Deaccess lun) is = given-up lun (u.access operator.task lun) (held operator.task lun)
    served _ is = absurd (true-false (sym is))

-- so one that is stopped leaves them
asked-lags : (x : Asking) (u t : Store) → is_reading x ≡ true → HoldsUnmarked u → LagsAsked x t u → KeepsFiles u t
asked-lags (asks r) u t is held h = λ n. h.1.others n (unmeant r h.0 u n is held)
asked-lags (told r a) u t is held h = λ n. h.1.others n (unmeant r h.0 u n is held)
asked-lags (reads lun vbn block) u t is held h =
    λ n. h.1.others n (if-served n (first_refusal u operator.task operator.caller (request.ReadBlock lun vbn)) no_work (λ none. refl))
asked-lags (counts lun blocks) u t is held h = absurd h
asked-lags (writes lun vbn block) u t is held h = absurd (true-false (sym is))

-- a list of what reads, of which the last was stopped
pub reads-leave : (s reached t : Store) (asked : List Asking) (last : Asking) → IsUnheld s → All (λ x. is_reading x ≡ true) asked
    → is_reading last ≡ true → Tried plain operator asked s reached → IsStopped last reached t → KeepsFiles s t
reads-leave s reached t asked last unheld only is tried stopped = by stopped
  where
    begun : StaysAs s s
    begun = record { files = λ n. refl; held = λ task lun. subst (IsUnmarkedIn s.file) (sym (unheld task lun)) tt }

    there : StaysAs s reached
    there = all-steps s asked s reached only begun tried

    by : IsStopped last reached t → KeepsFiles s t
    by (not_begun held same) = λ n. sym (ap (λ (x : Store). x.file n) same) ∙ there.files n
    by (in_part h) = λ n. asked-lags last reached t is there.held h n ∙ there.files n
