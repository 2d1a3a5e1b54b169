-- Room for more slots of the index file.
use Rattle.std.proofs.Common.{◌≡◌, ◌≢◌, ◌+◌, ◌-◌, ◌<◌, ◌≤◌, ◌||◌, ◌&&◌, ℕ, Bool, true, false, not, cond, IsTrue, List, [], ◌∷◌, Some, None}
use Rattle.std.proofs.Common.{ltb, eqb, refl, sym, ap, subst, ◌∙◌, arith}
use Rattle.std.proofs.lemmas.Bool.{eq-eqb, eqb-true, le-ltb, lt-ltb}
use Rattle.f11_dev.specs.Disk.{Disk}
use Rattle.f11_dev.specs.Image.{Image}
use Rattle.f11_dev.proofs.LookedLemmas.{looked_none}
use Rattle.f11_home.specs.Home.{HomeFields}
use Rattle.f11_chain.specs.declared.blocks.FileEnd.{FileEnd}
use Rattle.f11_index.specs.IndexFile.{slots}
use Rattle.f11_store.specs.Causes.{◌⇐◌, first_of, growth_causes, is_missing}
use Rattle.f11_store.specs.Cost.{header_count}
use Rattle.f11_store.specs.File.{File}
use Rattle.f11_store.specs.Refusal.{refusal_number}
use Rattle.f11_store.specs.Store.{Store, file_named, index_file}
use Rattle.f11_store.specs.declared.refusals.Refusal.{Refusal}
use Rattle.f11_store.specs.declared.refusals.Refusal.TheVariants.{NoSuchFile, IndexLimit, Damaged}
use Rattle.f11_files.specs.Answers.{FailsToRead, ReadsAtMost, is_among, is_cause, faults_of}
use Rattle.f11_files.specs.GrowingIndex.Runs.{index_id, HoldsIndexRoom}
use Rattle.f11_files.specs.Operations.{file_causes, grow_causes, held_causes}
use Rattle.f11_files.specs.Extending.Room.{FindsFileEnd}
use Rattle.f11_files.proofs.Extending.Room.{ends-then}
use Rattle.f11_image_store.specs.StoreOf.{store_of, slot_limit}
use Rattle.f11_files.specs.Structure.{index_in, home_of, store_on, IsStructureFor}
use Rattle.f11_files.specs.declared.structure.Structure.{Structure}
use Rattle.f11_files.proofs.AnswerLemmas.{right-cause, right-damaged, reads-looked, reads-within}
use Rattle.f11_files.proofs.GrowingIndex.IndexFile.{index-is}
use Rattle.f11_files.proofs.Finding.Locate.{reads-along}
use Rattle.f11_files.proofs.Opening.Space.{slots-of}

pub limit-of : (image : Image) (home : HomeFields) → (store_of image home).limit ≡ slot_limit home
unfolding store_of
limit-of image home = refl

-- another cause against a file's growth is one against that of the index file
among-slots : (s : Store) (n : ℕ) (r : Refusal) → refusal_number r ≢ 6 → is_among (held_causes s index_id n) r ≡ true
    → is_among (grow_causes s n) r ≡ true
among-slots s n r other is = go (eqb 6 (refusal_number r)) refl (eqb 14 (refusal_number r)) _ is
  where
    go : (missing : Bool) → eqb 6 (refusal_number r) ≡ missing → (a b : Bool) → (missing || b) ≡ true → (a || b) ≡ true
    go true same a b is = absurd (other (sym (eqb-true 6 (refusal_number r) same)))
    go false same true b is = refl
    go false same false b is = is

-- the headers of the index file, by its number or by its identification
module _ (s : Structure) (old : Disk) (for : IsStructureFor s old) where
  abbrev whole : Store
  whole = store_on s old

  is-there : IsTrue old.honest → is_missing whole index_id ≡ false
  is-there honest = (index-is s old for honest index_id refl refl).0

  reads-index : (faults : ℕ) (new : Disk) → ReadsAtMost (header_count (file_named whole index_id)) old new faults
      → ReadsAtMost (header_count (index_file whole)) old new faults
  reads-index faults new reads = record {
    reads = reads.reads;
    looked = reads.looked;
    few = λ honest. let few = reads.few honest in let same = ap header_count ((index-is s old for honest index_id refl refl).1) in
        omega (arith, few, same);
  }

  pub finds-reads : (end : FileEnd) (was last : List ℕ) (read : Disk) → FindsFileEnd s index_id end was last old read
      → ReadsAtMost (header_count (index_file whole)) old read 0
  finds-reads end was last read finds = reads-index 0 read (reads-along s index_id was old read 0 for finds.holds finds.ends.looked)

  -- a transfer failed, or something is damaged
  pub end-fails : (r : Refusal) (new : Disk) (b : Bool) → b ≡ eqb (refusal_number r) 6 → b ≡ false
      → FailsToRead false (file_causes whole index_id) (header_count (file_named whole index_id)) r old new
      → FailsToRead false [] (header_count (index_file whole)) r old new
  end-fails r new b test not fails =
      let other : refusal_number r ≢ 6 = λ six. let no : true ≡ false = sym (eq-eqb (refusal_number r) 6 six) ∙ sym test ∙ not in
      absurd cc in
      let never : is_cause r ≢ true = λ is. no-other r other (fails.right.among is) in
      record {
        right = record {
          volume = fails.right.volume;
          among = λ is. absurd (never is);
          cause = λ _ is. absurd (never is);
          undamaged = fails.right.undamaged;
        };
        reads = reads-index (faults_of r) new fails.reads;
      }
    where
      no-other : (r : Refusal) → refusal_number r ≢ 6 → is_among (file_causes whole index_id) r ≢ true
      no-other r other is = by_test (eqb 6 (refusal_number r)) refl is
        where
          by_test : (same : Bool) → eqb 6 (refusal_number r) ≡ same → (same || false) ≡ true → ⊥
          by_test true same is = other (sym (eqb-true 6 (refusal_number r) same))
          by_test false same is = absurd cc

  -- an index file that isn't there is damage, and is so on no honest disk
  pub end-gone : (r : Refusal) (new : Disk) (b : Bool) → b ≡ eqb (refusal_number r) 6 → b ≡ true
      → FailsToRead false (file_causes whole index_id) (header_count (file_named whole index_id)) r old new
      → FailsToRead false [] (header_count (index_file whole)) Damaged old new
  end-gone r new b test is fails =
      let six : refusal_number r ≡ 6 = eqb-true (refusal_number r) 6 (sym test ∙ is) in
      record {
        right = right-damaged _ _ (λ honest.
            let none : None ≡ Some r = ap (λ (b : Bool). first_of ((NoSuchFile ⇐ b) ∷ [])) (sym (is-there honest))
            ∙ fails.right.cause honest (ap (λ (k : ℕ). ltb 1 k && not (eqb k 19 || eqb k 20)) six) in
            absurd cc);
        reads = subst (λ (k : ℕ). ReadsAtMost (header_count (index_file whole)) old new k) (ap (λ (k : ℕ). cond (eqb k 19) 1 0) six)
            (reads-index (faults_of r) new fails.reads);
      }

module _ (s : Structure) (n : ℕ) (old : Disk) (for : IsStructureFor s old) where
  abbrev st : Store
  st = store_on s old

  pub slots-are : IsTrue old.honest → st.slots ≡ slots (index_in s)
  slots-are honest = slots-of old.image (home_of s) ∙ ap slots (sym (for.keeps honest).index_is)

  -- there would be more slots than there may be
  pub at-limit : (limit count left : ℕ) → limit ≡ slot_limit (home_of s) → count ≡ slots (index_in s) → left ≡ limit - count → left < n
      → 0 < n → FailsToRead false (grow_causes st n) (header_count (index_file st)) IndexLimit old old
  at-limit limit count left limit_is count_is left_is more some = record {
    right = right-cause _ _ _ (λ is. omega (arith, is)) (λ is. omega (arith, is)) refl (λ honest.
        let slots = slots-are honest in
        let most = limit-of old.image (home_of s) in
        ap (λ (b : Bool). cond b (Some IndexLimit) (first_of (growth_causes st (index_file st) n)))
        (lt-ltb st.limit (st.slots + n) (omega (arith, slots, most, limit_is, count_is, left_is, more, some))));
    reads = reads-within (omega arith) (reads-looked (looked_none old));
  }

  module _ (limit count left : ℕ) (limit_is : limit ≡ slot_limit (home_of s)) (count_is : count ≡ slots (index_in s))
      (left_is : left ≡ limit - count) (fits : n ≤ left) (some : 0 < n) where
    within : IsTrue old.honest → st.slots + n ≤ st.limit
    within honest =
        let slots = slots-are honest in
        let most = limit-of old.image (home_of s) in
        omega (arith, slots, most, limit_is, count_is, left_is, fits, some)

    module _ (honest : IsTrue old.honest) where
      named : file_named st index_id ≡ index_file st
      named = (index-is s old for honest index_id refl refl).1

      there : is_missing st index_id ≡ false
      there = (index-is s old for honest index_id refl refl).0

      causes-are : first_of (held_causes st index_id n) ≡ first_of (growth_causes st (index_file st) n)
      causes-are =
          ap (λ (b : Bool). cond b (Some NoSuchFile) (first_of (growth_causes st (file_named st index_id) n))) there
          ∙ ap (λ (g : File). first_of (growth_causes st g n)) named

      pub grow-are : first_of (grow_causes st n) ≡ first_of (held_causes st index_id n)
      grow-are =
          ap (λ (b : Bool). cond b (Some IndexLimit) (first_of (growth_causes st (index_file st) n)))
          (le-ltb st.limit (st.slots + n) (within honest)) ∙ sym causes-are

    pub lacks-slots : (r : Refusal) (new : Disk) → refusal_number r ≢ 6
        → FailsToRead false (held_causes st index_id n) (header_count (file_named st index_id)) r old new
        → FailsToRead false (grow_causes st n) (header_count (index_file st)) r old new
    lacks-slots r new other fails = record {
      right = record {
        volume = fails.right.volume;
        among = λ is. among-slots st n r other (fails.right.among is);
        cause = λ honest is. grow-are honest ∙ fails.right.cause honest is;
        undamaged = fails.right.undamaged;
      };
      reads = reads-index s old for (faults_of r) new fails.reads;
    }

    -- or there is room for them
    pub has-slots : (end : FileEnd) (was last : List ℕ) (read : Disk) → FindsFileEnd s index_id end was last old read
        → (IsTrue old.honest → first_of (held_causes st index_id n) ≡ None)
        → HoldsIndexRoom s n end was last read
    has-slots end was last read finds none =
        let looked = finds.ends.looked.looked in
        let same : store_on s read ≡ st = ap (λ (i : Image). store_of i (home_of s)) looked.image in
        record {
          within = λ honest. subst (λ (x : Store). x.slots + n ≤ x.limit) (sym same) (within (sym looked.honest ∙ honest));
          room = record {
            no_cause = λ honest. ap (λ (x : Store). first_of (held_causes x index_id n)) same ∙ none (sym looked.honest ∙ honest);
            ends = ends-then s index_id end was last old read finds;
          };
        }
