-- Actions on the volume of an image.
use Rattle.std.proofs.Common.{◌≡◌, ◌≢◌, inl, inr, not, ℕ, ◌+◌, ◌-◌, ◌≤◌, ◌||◌, Bool, true, false, IsTrue, List, [], ◌∷◌, ◌++◌, Option, Some}
use Rattle.std.proofs.Common.{None}
use Rattle.std.proofs.Common.{Result, Ok, Err, ◌<◌, suc, length, get_or, take, drop, refl, sym, ap, subst, ◌∙◌, arith, if◌then◌else◌}
use Rattle.std.specs.Io.KnownBytes.{Appends}
use Rattle.std.proofs.lemmas.List.{append-nil, length-append, length-take-le, take-append-drop, take_all}
use Rattle.std.proofs.Math.Seq.{drop-cons, take-suc}
use Rattle.f11_dev.specs.Disk.{Disk, with_transfer}
use Rattle.f11_dev.specs.Image.{IsImage}
use Rattle.f11_dev.specs.declared.device.Device.{Ghosts}
use Rattle.f11_catalog.proofs.ListingLemmas.{appends-then}
use Rattle.f11_catalog.specs.image_store.StoreOf.{store_of}
use Rattle.f11_fcp.specs.Accesses.{held_in}
use Rattle.f11_fcp.specs.Lists.{failures_of, store_of_volume}
use Rattle.f11_fcp.specs.Mounting.{Mounts}
use Rattle.f11_fcp.specs.Serving.{is_spent, state_in}
use Rattle.f11_fcp.specs.declared.volume.Volume.{Volume}
use Rattle.f11_fcp.specs.files.Answers.{is_fatal, is_fault, is_refused}
use Rattle.f11_making.specs.Actions.{plan_of}
use Rattle.f11_making.specs.Asking.{plain, who_asks}
use Rattle.f11_making.specs.Carrying.{Carries}
use Rattle.f11_making.specs.FilesPlan.{Carried, FilesPlan}
use Rattle.f11_making.specs.Volume.{of_volume}
use Rattle.f11_making.specs.declared.action.Action.{Action}
use Rattle.f11_making.proofs.TellLemmas.{carried}
use Rattle.f11_store.specs.Store.{Store}
use Rattle.f11_store.specs.declared.refusals.Refusal.{Refusal}
use Rattle.f11_store.specs.declared.refusals.Refusal.TheVariants as refusal
use Rattle.f11_volume.specs.Verdict.{IsAccepted}
use Rattle.f11_commands.proofs.CopyLemmas.{first-is, last-is, sound-first, stands-accepted}
use Rattle.f11_commands.specs.CopyCommand.{VerifiesFiles}
use Rattle.f11_commands.specs.Copying.{master_directory, operator}
use Rattle.f11_commands.specs.Output.{WriterTakes}
use Rattle.f11_commands.specs.declared.outcome.Failure.{Failure}
use Rattle.f11_commands.specs.declared.outcome.Failure.TheVariants.{CannotWrite}
use Rattle.f11_commands.specs.declared.outcome.FileAnswer.{FileAnswer}
use Rattle.f11_actions.specs.Command.{ActsOnImage, BeginsOnImage, BreaksOff, BreaksOne, DoesAll, DoesEach, DoesOne, EndsAccepted, Kept}
use Rattle.f11_actions.specs.Command.{EndsActions}
use Rattle.f11_actions.specs.Command.{TellsActions}
use Rattle.f11_actions.specs.Command.{TellsAll}
use Rattle.f11_actions.specs.Command.{all_done, ended, ending, failure_of, unkept, unwritten}
use Rattle.f11_actions.specs.Lines.{action_line, all_line, lines_of, refused_in, refused_one}
use Rattle.f11_actions.specs.Plans.{Acted, actions_in, all_of, goes_on, is_last}
use Rattle.f11_actions.specs.Tried.{is_stopped}
use Rattle.f11_actions.specs.declared.behind.Behind.{Behind}
use Rattle.f11_actions.proofs.AllLemmas.{acted, acted-are, lines-more, one-ends, one-more, refused-more, tidy-all}
use Rattle.f11_actions.proofs.TriedLemmas.{all-tried, length-acted, on-none, so-far, so-far-more, tried-first, tried-stopped}

-- a refusal that ends them, and one that doesn't
record IsEnding (r : Result (Unit {0}) Refusal) (f : Failure) : Type 0 where
  pub refusal : Refusal
  pub is : r ≡ Err refusal
  pub told : ending (Err refusal) ≡ Some f

ends-by : (r : Result (Unit {0}) Refusal) (f : Failure) → ending r ≡ Some f → IsEnding r f
ends-by (Ok x) f is = absurd (cc)
ends-by (Err e) f is = record { refusal = e; is = refl; told = is }

last-by : (e : Refusal) (f : Failure) → ending (Err e) ≡ Some f → is_last e ≡ true
last-by e f is = by (is_last e) is
  where
    by : (b : Bool) → (if b then Some (failure_of e) else None) ≡ Some f → b ≡ true
    by true is = refl
    by false is = absurd (cc)

goes-on-by : (r : Result (Unit {0}) Refusal) → ending r ≡ None → goes_on r ≡ true
goes-on-by (Ok x) is = refl
goes-on-by (Err e) is = by (is_last e) is
  where
    by : (b : Bool) → (if b then Some (failure_of e) else None) ≡ None → not b ≡ true
    by true is = absurd (cc)
    by false is = refl

-- one action, asked for by the operator
module _ {D : Type 0} {met : Ghosts D} (a : Action) (r : Result (Unit {0}) Refusal) (task lun : ℕ) (v w : Volume D met) (first : task ≡ 0)
    (first-lun : lun ≡ 0) (carries : Carries (who_asks task operator.caller) (plan_of lun master_directory a) r v w) where
  by-operator : Carried of_volume operator (plan_of 0 master_directory a) r v w
  by-operator =
      subst (λ l. Carried of_volume operator (plan_of l master_directory a) r v w) first-lun
      (subst (λ t. Carried of_volume (who_asks t operator.caller) (plan_of lun master_directory a) r v w) first carries.carried)

  pub one-ended : {W : Type 0} (f : Failure) (before : W) → ending r ≡ Some f → BreaksOne a f v w before before
  one-ended f before is =
      let e = ends-by r f is in
      inl (record {
        refusal = e.refusal;
        told_is = e.told;
        carried = subst (λ x. Carried of_volume operator (plan_of 0 master_directory a) x v w) e.is by-operator;
        unwritten = refl;
      })

  pub one-unwritten : {W : Type 0} (before after : W) → ending r ≡ None → BreaksOne a CannotWrite v w before after
  one-unwritten before after none = inr (record { told_is = refl; result = r; on = goes-on-by r none; carried = by-operator })

  pub one-done : {W : Type 0} (refused : ℕ) (contents : W → Option (List ℕ)) (before after : W) → ending r ≡ None
      → refused ≡ refused_one r → WriterTakes contents before after (action_line a r)
      → DoesOne a refused v w contents before after
  one-done refused contents before after none count line =
      record { result = r; on = goes-on-by r none; refused_is = count; carried = by-operator; line = line }

-- nothing was written yet
pub takes-none : (o : Option (List ℕ)) → Appends o o []
takes-none None = tt
takes-none (Some xs) = sym (append-nil xs)

-- So many actions were tried, of which so many were refused, and the next one is to be.
pub record Began {D W : Type 0} {met : Ghosts D} (how : Behind) (actions : List Action) (i done refused : ℕ) (v w : Volume D met)
    (contents : W → Option (List ℕ)) (before after : W) : Type 0 where
  pub does : DoesEach (take i actions) refused v w contents before after
  pub count : done + refused ≡ length (take i actions)
  pub on : is_stopped how refused ≡ false

module _ {D W : Type 0} {met : Ghosts D} (how : Behind) (actions : List Action) (contents : W → Option (List ℕ)) (v : Volume D met)
    (before : W) where
  pub begins : WriterTakes contents before before [] → Began how actions 0 0 0 v v contents before before
  begins takes = record {
    does = record { acted = []; refused_is = refl; few = omega arith; carried = (refl, refl); lines = takes };
    count = refl;
    on = on-none how;
  }

  pub one-refused : (a : Action) (n : ℕ) (u w : Volume D met) (now after : W) → DoesOne a n u w contents now after → n ≤ 1
  one-refused a n u w now after one = by one.result one.refused_is
    where
      by : (r : Result (Unit {0}) Refusal) → n ≡ refused_one r → n ≤ 1
      by (Ok x) is = omega (arith, is)
      by (Err e) is = omega (arith, is)

  -- so many were tried, and no more than there are
  pub few-tried : (i done refused : ℕ) (u : Volume D met) (now : W) → i < length actions
      → Began how actions i done refused v u contents before now → done + refused ≡ i
  few-tried i done refused u now some began =
      let count = began.count in
      let size = length-take-le i actions (omega (arith, some)) in omega (arith, count, size)

  -- the next one was tried
  module _ (i done refused n : ℕ) (d : Action) (u w : Volume D met) (now after : W) (some : i < length actions)
      (began : Began how actions i done refused v u contents before now)
      (one : DoesOne (get_or actions i d) n u w contents now after) where
    abbrev shown : List Acted
    shown = began.does.acted ++ acted (get_or actions i d) one.result ∷ []

    abbrev tried : List Action
    tried = take i actions ++ get_or actions i d ∷ []

    more : take (suc i) actions ≡ tried
    more = take-suc actions i d some

    refused-is : refused + n ≡ refused_in shown
    refused-is =
        let was = began.does.refused_is in
        let is = one.refused_is in
        let sum = refused-more began.does.acted (get_or actions i d) one.result in omega (arith, was, is, sum)

    few : refused + n ≤ length tried
    few =
        let was = began.does.few in
        let at-most = one-refused (get_or actions i d) n u w now after one in
        let size = length-append (take i actions) (get_or actions i d ∷ []) in omega (arith, was, at-most, size)

    carried-all : Carried of_volume operator (all_of 0 master_directory tried) (Ok shown) v w
    carried-all =
        one-more of_volume operator 0 master_directory (take i actions) (get_or actions i d) began.does.acted one.result v u w
        began.does.carried one.carried one.on

    lines : WriterTakes contents before after (lines_of shown)
    lines =
        subst (λ t. WriterTakes contents before after t) (sym (lines-more began.does.acted (get_or actions i d) one.result))
        (appends-then (contents before) (contents now) (contents after) (lines_of began.does.acted)
        (action_line (get_or actions i d) one.result)
        began.does.lines one.line)

    count : (done + (1 - n)) + (refused + n) ≡ length tried
    count =
        let was = began.count in
        let at-most = one-refused (get_or actions i d) n u w now after one in
        let size = length-append (take i actions) (get_or actions i d ∷ []) in omega (arith, was, at-most, size)

    on-so-far : is_stopped how (refused_in began.does.acted) ≡ false
    on-so-far = sym (ap (is_stopped how) began.does.refused_is) ∙ began.on

    pub goes-further : is_stopped how (refused + n) ≡ false
        → Began how actions (i + 1) (done + (1 - n)) (refused + n) v w contents before after
    goes-further on =
        let next : i + 1 ≡ suc i = omega arith in
        subst (λ k. Began how actions k (done + (1 - n)) (refused + n) v w contents before after) (sym next) (record {
          does = subst (λ xs. DoesEach xs (refused + n) v w contents before after) (sym more)
              (record { acted = shown; refused_is = refused-is; few = few; carried = carried-all; lines = lines });
          count = count ∙ ap length (sym more);
          on = on;
        })

    -- and none behind it is
    pub stops : is_stopped how (refused + n) ≡ true
        → DoesAll how actions (done + (1 - n)) (refused + n) v w contents before after
    stops stopped =
        let are = acted-are of_volume operator 0 master_directory tried shown v w carried-all in
        record {
          first = tried;
          does = record { acted = shown; refused_is = refused-is; few = few; carried = carried-all; lines = lines };
          tried = tried-stopped how actions (drop (suc i) actions) began.does.acted (acted (get_or actions i d) one.result) on-so-far
              (sym (ap (is_stopped how) refused-is) ∙ stopped)
              (sym (take-append-drop (suc i) actions) ∙ ap (λ (xs : List Action). xs ++ drop (suc i) actions) (more ∙ sym are));
          done_is =
              let size = length-acted shown ∙ ap length are in
              let all = count in omega (arith, size, all);
        }

  pub breaks-off : (i done refused : ℕ) (d : Action) (failure : Failure) (u w : Volume D met) (now after : W) → i < length actions
      → Began how actions i done refused v u contents before now → BreaksOne (get_or actions i d) failure u w now after
      → BreaksOff how actions failure v w contents before after
  breaks-off i done refused d failure u w now after some began (inl e) =
      let a : Action = get_or actions i d in
      let whole : take i actions ++ a ∷ drop (suc i) actions ≡ actions =
      ap (λ xs. take i actions ++ xs) (sym (drop-cons actions i d some)) ∙ take-append-drop i actions in
      inl (record {
        refusal = e.refusal;
        told_is = e.told_is;
        carried = subst (λ xs. Carried of_volume operator (all_of 0 master_directory xs) (Err e.refusal) v w) whole
            (one-ends of_volume operator 0 master_directory (take i actions) a (drop (suc i) actions) began.does.acted e.refusal v u w
            began.does.carried e.carried (last-by e.refusal failure e.told_is));
        among = record {
          first = take i actions;
          one = a;
          left = drop (suc i) actions;
          parts = sym whole;
          acted = began.does.acted;
          are = acted-are of_volume operator 0 master_directory (take i actions) began.does.acted v u began.does.carried;
          lines = subst (λ (x : W). WriterTakes contents before x (lines_of began.does.acted)) (sym e.unwritten) began.does.lines;
        };
        between = u;
        begun = began.does.carried;
        on = sym (ap (is_stopped how) began.does.refused_is) ∙ began.on;
      })
  breaks-off i done refused d failure u w now after some began (inr l) =
      let a : Action = get_or actions i d in
      inr (record {
        told_is = l.told_is;
        n = suc i;
        few = omega (arith, some);
        acted = began.does.acted ++ acted a l.result ∷ [];
        carried =
            subst (λ xs. Carried of_volume operator (all_of 0 master_directory xs) (Ok (began.does.acted ++ acted a l.result ∷ [])) v w)
            (sym (take-suc actions i d some))
            (one-more of_volume operator 0 master_directory (take i actions) a began.does.acted l.result v u w began.does.carried l.carried
            l.on);
        so_far = so-far-more how began.does.acted (acted a l.result) (sym (ap (is_stopped how) began.does.refused_is) ∙ began.on);
      })

  pub did-all : (i done refused : ℕ) (u : Volume D met) (now : W) → length actions ≤ i
      → Began how actions i done refused v u contents before now → DoesAll how actions done refused v u contents before now
  did-all i done refused u now all began =
      let are = acted-are of_volume operator 0 master_directory (take i actions) began.does.acted v u began.does.carried in
      record {
        first = take i actions;
        does = began.does;
        tried = all-tried how actions began.does.acted (are ∙ take_all i actions all)
            (sym (ap (is_stopped how) began.does.refused_is) ∙ began.on);
        done_is =
            let size = length-acted began.does.acted ∙ ap length are in
            let count = began.count in omega (arith, size, count);
      }

-- where no more transfers failed it was no device fault
no-fault : (b : Bool) (m n : ℕ) → n ≡ m + (if b then 1 else 0) → n ≡ m → b ≡ false
no-fault true m n more same = absurd (omega (arith, more, same))
no-fault false m n more same = refl

-- the image of a volume that was mounted, and on which actions were done
module _ {D : Type 0} {met : Ghosts D} (old : Disk) (first last : Volume D met) (mounts : Mounts old first) (image : IsImage old.image)
    (files-accepted : IsTrue old.honest → IsAccepted old.image) where
  pub acts-on-image : (actions : List Action) (result : Result (List Acted) Refusal)
      → Carried of_volume operator (all_of 0 master_directory actions) result first last
      → ActsOnImage actions result old (state_in last).disk
  acts-on-image actions result goes = record {
    home = (state_in first).home;
    held = (state_in last).table;
    home_is = mounts.home;
    outcome = λ is whole.
        subst (λ (s : Store). Carried plain operator plan result s
        (held_in (state_in last).table (store_of (state_in last).disk.image (state_in first).home)))
        (first-is old first last mounts home-stays)
        (subst (λ (s : Store). Carried plain operator plan result (store_of_volume first) s) (last-is old first last mounts home-stays)
        (carries.goes (sound-first old first last mounts home-stays is) whole));
    failures = let none = mounts.looked.failures in let some = carries.fares.failures in omega (arith, none, some);
    quiet = carries.fares.quiet;
    undamaged = undamaged;
    accepted = λ is. carries.fares.accepted (carries.fares.honest ∙ mounts.looked.honest ∙ is);
    meanwhile = stands-accepted old first last mounts image files-accepted alive carries.fares.lost;
  }
    where
      plan : FilesPlan (Result (List Acted) Refusal)
      plan = all_of 0 master_directory actions

      carries : Carries operator plan result first last
      carries = carried operator plan result first last (tidy-all 0 master_directory actions) goes

      home-stays : (state_in last).home ≡ (state_in first).home
      home-stays = carries.fares.home

      undamaged : IsTrue old.honest → result ≢ Err refusal.Damaged
      undamaged honest = carries.undamaged (mounts.looked.honest ∙ honest) mounts.fresh

      by-result : (r : Result (List Acted) Refusal) → r ≢ Err refusal.Damaged → is_refused is_fatal r ≡ is_refused is_fault r
      by-result (Ok xs) un = refl
      by-result (Err refusal.Damaged) un = absurd (un refl)
      by-result (Err refusal.DeviceFault) un = refl
      by-result (Err _) un = refl

      alive : IsTrue old.honest → (state_in last).disk.failures ≡ old.failures → is_spent last ≡ false
      alive honest same =
          carries.fares.next (mounts.looked.honest ∙ honest) ∙ ap (λ b. b || is_refused is_fatal result) mounts.fresh
          ∙ by-result result (undamaged honest)
          ∙ no-fault (is_refused is_fault result) (failures_of first) (failures_of last) carries.fares.failures
          (let none = mounts.looked.failures in omega (arith, none, same))

  -- and of which some were
  begins-on-image : (actions : List Action) (acted : List Acted) (u : Volume D met) → (state_in last).home ≡ (state_in first).home
      → Carried of_volume operator (all_of 0 master_directory actions) (Ok acted) first u → BeginsOnImage actions acted old
  begins-on-image actions acted u stays goes = record {
    home = (state_in first).home;
    home_is = mounts.home;
    outcome = λ is. (
      store_of_volume u,
      subst (λ (s : Store). Carried plain operator (all_of 0 master_directory actions) (Ok acted) s (store_of_volume u))
          (first-is old first last mounts stays)
          ((carried operator (all_of 0 master_directory actions) (Ok acted) first u (tidy-all 0 master_directory actions) goes).goes
          (sound-first old first last mounts stays is) refl),
    );
  }

  -- how all of them are told
  pub told-all : {W : Type 0} (how : Behind) (actions : List Action) (done refused : ℕ) (told : Result FileAnswer Failure) (kept new : Disk)
      (contents : W → Option (List ℕ)) (before between after : W) → kept ≡ (state_in last).disk
      → DoesAll how actions done refused first last contents before between → TellsAll done refused told kept new contents between after
      → TellsActions how actions told old new contents before after
  told-all {W} how actions done refused told kept new contents before between after at all tells =
      by (subst (λ k. TellsAll m k told kept new contents between after) all.does.refused_is
      (subst (λ k. TellsAll k refused told kept new contents between after) done-is tells))
    where
      xs : List Acted
      xs = all.does.acted

      n : ℕ
      n = refused_in xs

      m : ℕ
      m = length xs - n

      done-is : done ≡ m
      done-is = all.done_is ∙ ap (λ (k : ℕ). length xs - k) all.does.refused_is

      Told : Disk → Type 0
      Told d = TellsActions how actions told old d contents before after

      are : actions_in xs ≡ all.first
      are = acted-are of_volume operator 0 master_directory all.first xs first last all.does.carried

      acts : ActsOnImage (actions_in xs) (Ok xs) old (state_in last).disk
      acts = subst (λ ys. ActsOnImage ys (Ok xs) old (state_in last).disk) (sym are) (acts-on-image all.first (Ok xs) all.does.carried)

      by : TellsAll m n told kept new contents between after → Told new
      by (inl (same, inl (is, takes))) =
          subst Told (sym (same ∙ at))
          (all_done xs all.tried acts is
          (appends-then (contents before) (contents between) (contents after) (lines_of xs) (all_line m n) all.does.lines takes))
      by (inl (same, inr is)) =
          let t = tried-first how actions xs all.tried in
          unwritten (length (actions_in xs)) xs (state_in last).disk t.0
          (subst (λ ys. ActsOnImage ys (Ok xs) old (state_in last).disk) (sym t.1) acts) (so-far how actions xs all.tried)
          (inl (is, same ∙ at))
      by (inr (failed, is, same)) =
          unkept xs (state_in last).disk all.tried acts (failed ∙ ap (λ d. with_transfer false d) at) is
          (subst (λ (x : W). WriterTakes contents before x (lines_of xs)) (sym same) all.does.lines)

  -- and how it is told where they broke off
  pub told-broken : {W : Type 0} (how : Behind) (actions : List Action) (failure : Failure) (told : Result FileAnswer Failure)
      (kept new : Disk)
      (contents : W → Option (List ℕ)) (before after : W) → kept ≡ (state_in last).disk → Kept failure told kept new
      → BreaksOff how actions failure first last contents before after → TellsActions how actions told old new contents before after
  told-broken how actions failure told kept new contents before after at keeps (inl e) =
      ended e.refusal failure (state_in last).disk (acts-on-image actions (Err e.refusal) e.carried) e.told_is
      (subst (λ (d : Disk). Kept failure told d new) at keeps) e.among
      (begins-on-image e.among.first e.among.acted e.between
      (carried operator (all_of 0 master_directory actions) (Err e.refusal) first last (tidy-all 0 master_directory actions)
      e.carried).fares.home
      e.begun) e.on
  told-broken how actions failure told kept new contents before after at keeps (inr l) =
      unwritten l.n l.acted (state_in last).disk l.few (acts-on-image (take l.n actions) (Ok l.acted) l.carried)
      l.so_far
      (subst (λ (d : Disk). Kept CannotWrite told d new) at (subst (λ (f : Failure). Kept f told kept new) l.told_is keeps))

-- behind a verified image
pub ends-actions : {W : Type 0} (how : Behind) (actions : List Action) (told : Result FileAnswer Failure) (contents : W → Option (List ℕ))
    (before now after : W) (image read new : Disk) → VerifiesFiles image read × (now ≡ before)
    → EndsAccepted how actions told read new contents now after → EndsActions how actions told image new contents before after
ends-actions {W} how actions told contents before now after image read new verified ends =
    inr (record {
      read = read;
      verified = verified.0;
      ends = subst (λ (x : W). EndsAccepted how actions told read new contents x after) verified.1 ends;
    })
