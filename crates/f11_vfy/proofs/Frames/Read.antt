-- What is found of a frame, part after part.
use Rattle.std.proofs.Common.{◌≡◌, ◌≢◌, ◌≤◌, ◌<◌, ◌+◌, ◌/◌, ℕ, zero, suc, refl, ap, sym, ◌∙◌, subst, arith, true, false, List, [], ◌∷◌}
use Rattle.std.proofs.Common.{◌++◌, Some, length, take, drop, ◌↔◌}
use Rattle.std.specs.Prelude.{All, IsTrue, slice_index, Result, Ok, Err, IfOk}
use Rattle.std.specs.List.{slice_get}
use Rattle.std.proofs.lemmas.Bool.{both_ways}
use Rattle.std.proofs.lemmas.Bool.Decides.{nat_tests}
use Rattle.std.proofs.lemmas.List.{get_or-take, length-take, length-drop, take-take, take-append-drop}
use Rattle.f11_bits.specs.Bitmap.{Bitmap}
use Rattle.f11_dev.specs.Disk.{Disk, with_transfer}
use Rattle.f11_dev.specs.Image.{Image, image_block}
use Rattle.f11_dev.specs.Looked.{Looked}
use Rattle.f11_dev.proofs.ImageLemmas.{image_block-read}
use Rattle.f11_dev.proofs.LookedLemmas.{looked_none, looked_more, looked_within, looked_read}
use Rattle.f11_home.specs.Home.{HomeFields, candidates, FindsHome, FindsNoHome}
use Rattle.f11_index.specs.Calls.{ReadsIndex, FindsMisplaced}
use Rattle.f11_index.specs.IndexFile.{Index, IsFirstPast, HasNonePast}
use Rattle.f11_index.specs.Kept.{IndexLiesWithin}
use Rattle.f11_index.specs.Sound.{IsIndexFile}
use Rattle.f11_index.specs.Table.{Table, table_in, table_of}
use Rattle.f11_chain.specs.FileHeaders.{IsSoundFile}
use Rattle.f11_vfy.specs.Frames.Earlier.{JudgesEarlier}
use Rattle.f11_volume.specs.Earlier.{AreNamedBefore}
use Rattle.f11_volume.specs.Faults.{IsOwnFile, IsFirstNoFile, HasIndexFile, HasOwnFiles, HasBitmapFile, HasControlBlock, IsFaultBehindHome}
use Rattle.f11_volume.specs.Faults.{index_misplaced, own_file_bad, bitmap_file_bad, control_block_wrong, bit_past_slots, no_home}
use Rattle.f11_volume.specs.Faults.{behind_home}
use Rattle.f11_vfy.specs.Frames.Read.{frame_index, frame_bitmap, IsIndexOf, IsBehindHome, ReadsBehind, FindsBehind, FramesBehind, Frames}
use Rattle.f11_vfy.specs.declared.frame.framing.Framing.{Framing}
use Rattle.f11_vfy.specs.declared.frame.framing.Framing.TheVariants.{Framed, Faulty}
use Rattle.f11_vfy.specs.Frames.Parts.{needed, FindsOwnFiles, FindsNoOwnFile, ReadsBitmapFile, FindsNoBitmapFile}
use Rattle.f11_vfy.specs.Frames.Frame.{LieOn, ReadsFrame, FindsFrameFault}
use Rattle.f11_vfy.specs.Scanning.Reading.{bitmap_at}
use Rattle.f11_volume.specs.Space.{bitmap_count, stated_size, bitmap_file, control_block, IsControlBlock, storage_bitmap}
use Rattle.f11_volume.proofs.MemberLemmas.{all-back, all-take}

-- the first blocks of a file
first-block : (xs : List ℕ) → slice_index (needed xs) 0 ≡ slice_index xs 0
first-block xs = get_or-take 127 xs 0 0 (omega arith)

rest-take : (n : ℕ) (xs : List ℕ) → drop 1 (take (suc n) xs) ≡ take n (drop 1 xs)
rest-take zero [] = refl
rest-take (suc n) [] = refl
rest-take n (x ∷ xs) = refl

rest-places : (n : ℕ) (xs : List ℕ) → n ≤ 126 → take n (drop 1 (needed xs)) ≡ take n (drop 1 xs)
rest-places n xs few = ap (take n) (rest-take 126 xs) ∙ take-take n 126 (drop 1 xs) few

-- a control block is judged by as many blocks of its file as are needed
control-whole : (control xs : List ℕ) (device : ℕ) → IsControlBlock control (length (needed xs)) device
    → IsControlBlock control (length xs) device
control-whole control xs device is = record {
  some_bitmap = is.some_bitmap;
  few_bitmap = is.few_bitmap;
  in_file = omega (arith, is.in_file, length-take 127 xs);
  some_blocks = is.some_blocks;
  covered = is.covered;
  on_device = is.on_device;
}

control-needed : (control xs : List ℕ) (device : ℕ) → IsControlBlock control (length xs) device
    → IsControlBlock control (length (needed xs)) device
control-needed control xs device is = record {
  some_bitmap = is.some_bitmap;
  few_bitmap = is.few_bitmap;
  in_file = omega (arith, is.in_file, is.few_bitmap, length-take 127 xs);
  some_blocks = is.some_blocks;
  covered = is.covered;
  on_device = is.on_device;
}

-- the bitmap that a control block tells of
bitmap-same : (image : Image) (home : HomeFields) (count size : ℕ) (first block : List ℕ) → count ≡ bitmap_count block
    → size ≡ stated_size block
    → first ≡ needed (bitmap_file (table_of image home)) → block ≡ control_block image (table_of image home) → count ≤ 126
    → bitmap_at (take count (drop 1 first)) size ≡ storage_bitmap image home
unfolding storage_bitmap
bitmap-same image home count size first block count_is size_is are is few =
    let file : List ℕ = bitmap_file (table_of image home) in
    let places : take count (drop 1 first) ≡ take count (drop 1 file) = ap (λ (xs : List ℕ). take count (drop 1 xs)) are
    ∙ rest-places count file few in
    let counted : count ≡ bitmap_count (control_block image (table_of image home)) = count_is ∙ ap bitmap_count is in
    let sized : size ≡ stated_size (control_block image (table_of image home)) = size_is ∙ ap stated_size is in
    ap (λ (xs : List ℕ). bitmap_at xs size) (places ∙ ap (λ (n : ℕ). take n (drop 1 file)) counted)
    ∙ ap (bitmap_at (take (bitmap_count (control_block image (table_of image home))) (drop 1 file))) sized

module _ (home : HomeFields) (index : Index) (old : Disk) (known : IsTrue old.honest → IsIndexOf old.image home index) where
  abbrev Known : (Image → HomeFields → Type 0) → Type 0
  Known P = IsTrue old.honest → P old.image home

  -- a table read by the index is the image's
  to-table : (P : Table → Type 0) → IsTrue old.honest → P (table_in old.image index) → P (table_of old.image home)
  to-table P honest = subst (λ (i : Index). P (table_in old.image i)) (known honest).index_is

  module _ (now : Disk) (most : ℕ) (looked : Looked old now most 0) where
    still : IsTrue old.honest → IsTrue now.honest
    still honest = looked.honest ∙ honest

    -- what is known of the device as it is now was so before
    to-old : (P : Image → Type 0) → P now.image → P old.image
    to-old P = subst P looked.image

    pub bad-earlier : (new : Disk) → most ≡ 0 → JudgesEarlier index home.lbn false now new → FindsBehind home 2 0 old new
    bad-earlier new none judges = record {
      fault = λ honest. index_misplaced (λ has.
          let right = to-old (λ (image : Image). IsTrue false ↔ AreNamedBefore (table_in image index) home.lbn)
          (judges.right (still honest)) in
          let named = to-table (λ (t : Table). IsTrue false ↔ AreNamedBefore t home.lbn) honest right in
          both_ways false refl (named.1 has.earlier));
      looked = looked_within (looked_more looked judges.looked) (omega (arith, none));
    }

    pub good-earlier : (new : Disk) → JudgesEarlier index home.lbn true now new → Known HasIndexFile
    good-earlier new judges honest =
        let right = to-old (λ (image : Image). IsTrue true ↔ AreNamedBefore (table_in image index) home.lbn) (judges.right (still honest))
        in
        let named = to-table (λ (t : Table). IsTrue true ↔ AreNamedBefore t home.lbn) honest right in
        record { file = (known honest).sound; earlier = named.0 refl }

    module _ (indexed : Known HasIndexFile) where
      pub bad-own : (n : ℕ) (new : Disk) → most ≤ 256 → FindsNoOwnFile index n now new → FindsBehind home 3 n old new
      bad-own n new few finds = record {
        fault = λ honest.
            let first = to-old (λ (image : Image). IsFirstNoFile (table_in image index) n) (finds.first (still honest)) in
            own_file_bad n (indexed honest) (to-table (λ (t : Table). IsFirstNoFile t n) honest first);
        looked = looked_within (looked_more looked finds.looked) (omega (arith, few));
      }

      pub good-own : (new : Disk) → FindsOwnFiles index now new → Known HasOwnFiles
      good-own new finds honest =
          let own = to-old (λ (image : Image). (n : ℕ) → 2 ≤ n → n ≤ 4 → IsOwnFile (table_in image index) n) (finds.own (still honest)) in
          to-table (λ (t : Table). (n : ℕ) → 2 ≤ n → n ≤ 4 → IsOwnFile t n) honest own

      module _ (own : Known HasOwnFiles) where
        pub bad-bitmap : (new : Disk) → most ≤ 259 → FindsNoBitmapFile index now new → FindsBehind home 4 0 old new
        bad-bitmap new few finds = record {
          fault = λ honest.
              let not = to-old (λ (image : Image). ¬ IsSoundFile (table_in image index) 2 (length image)) (finds.not (still honest)) in
              let none = to-table (λ (t : Table). ¬ IsSoundFile t 2 (length old.image)) honest not in
              bitmap_file_bad (indexed honest) (own honest) (λ has. none has.sound);
          looked = looked_within (looked_more looked finds.looked) (omega (arith, few));
        }

        sound-file : (first : List ℕ) (new : Disk) → ReadsBitmapFile index first now new → IsTrue old.honest
            → IsSoundFile (table_of old.image home) 2 (length old.image)
        sound-file first new reads honest =
            let sound = to-old (λ (image : Image). IsSoundFile (table_in image index) 2 (length image)) (reads.sound (still honest)) in
            to-table (λ (t : Table). IsSoundFile t 2 (length old.image)) honest sound

        pub first-are : (first : List ℕ) (new : Disk) → ReadsBitmapFile index first now new → IsTrue old.honest
            → first ≡ needed (bitmap_file (table_of old.image home))
        first-are first new reads honest =
            let are = to-old (λ (image : Image). first ≡ needed (bitmap_file (table_in image index))) (reads.first_are (still honest)) in
            to-table (λ (t : Table). first ≡ needed (bitmap_file t)) honest are

        pub no-block : (first : List ℕ) (new : Disk) → most ≤ 259 → length first ≡ 0 → ReadsBitmapFile index first now new
            → FindsBehind home 4 0 old new
        no-block first new few empty reads = record {
          fault = λ honest. bitmap_file_bad (indexed honest) (own honest) (λ has.
              let size = ap length (first-are first new reads honest) in
              has.some (no-length (bitmap_file (table_of old.image home))
              (omega (arith, size, empty, length-take 127 (bitmap_file (table_of old.image home))))));
          looked = looked_within (looked_more looked reads.looked) (omega (arith, few));
        }
          where
            no-length : (xs : List ℕ) → length xs ≡ 0 → xs ≡ []
            no-length [] is = refl
            no-length (x ∷ xs) is = absurd (omega (arith, is))

        pub good-bitmap : (first : List ℕ) (new : Disk) → length first ≢ 0 → ReadsBitmapFile index first now new → Known HasBitmapFile
        good-bitmap first new some reads honest = record {
          sound = sound-file first new reads honest;
          some = λ none. some (ap length (first-are first new reads honest) ∙ ap (λ (xs : List ℕ). length (needed xs)) none);
        }

        pub on-device : (first : List ℕ) (new : Disk) → ReadsBitmapFile index first now new → All (λ lbn. lbn < length old.image) first
        on-device first new reads = to-old (λ (image : Image). All (λ lbn. lbn < length image) first) reads.within

        -- the storage bitmap file is as it should be, these are its first blocks, and the first of them was read
        module _ (file : Known HasBitmapFile) (first : List ℕ)
            (are : IsTrue old.honest → first ≡ needed (bitmap_file (table_of old.image home)))
            (within : All (λ lbn. lbn < length old.image) first)
            (lbn : ℕ) (block : List ℕ) (new : Disk) (at : lbn ≡ slice_index first 0) (counts : new ≡ with_transfer true now)
            (gives : IsTrue now.honest → slice_get now.image lbn ≡ Some block) (few : most ≤ 515) where
          block-is : IsTrue old.honest → block ≡ control_block old.image (table_of old.image home)
          unfolding control_block
          block-is honest =
              let read : slice_get old.image lbn ≡ Some block = to-old (λ (image : Image). slice_get image lbn ≡ Some block)
              (gives (still honest)) in
              let place : lbn ≡ slice_index (bitmap_file (table_of old.image home)) 0 =
              at ∙ ap (λ (xs : List ℕ). slice_index xs 0) (are honest) ∙ first-block (bitmap_file (table_of old.image home)) in
              sym (image_block-read old.image lbn block read) ∙ ap (image_block old.image) place

          all-looked : Looked old new 516 0
          all-looked = looked_within (looked_more looked (looked_read now new counts)) (omega (arith, few))

          has-control : IsControlBlock block (length first) (length old.image) → Known HasControlBlock
          has-control is honest =
              let there = subst (λ (xs : List ℕ). IsControlBlock block (length xs) (length old.image)) (are honest) is in
              subst (λ (b : List ℕ). IsControlBlock b (length (bitmap_file (table_of old.image home))) (length old.image)) (block-is honest)
              (control-whole block (bitmap_file (table_of old.image home)) (length old.image) there)

          pub bad-control : ¬ IsControlBlock block (length first) (length old.image) → FindsBehind home 5 0 old new
          bad-control not = record {
            fault = λ honest. control_block_wrong (indexed honest) (own honest) (file honest) (λ has.
                let there = subst (λ (b : List ℕ). IsControlBlock b (length (bitmap_file (table_of old.image home))) (length old.image))
                (sym (block-is honest)) has in
                not (subst (λ (xs : List ℕ). IsControlBlock block (length xs) (length old.image)) (sym (are honest))
                (control-needed block (bitmap_file (table_of old.image home)) (length old.image) there)));
            looked = all-looked;
          }

          module _ (control : IsControlBlock block (length first) (length old.image)) where
            pub bad-past : (n : ℕ) → IsFirstPast index n → FindsBehind home 6 n old new
            bad-past n past = record {
              fault = λ honest. bit_past_slots n (indexed honest) (own honest) (file honest) (has-control control honest)
                  (subst (λ (i : Index). IsFirstPast i n) (known honest).index_is past);
              looked = all-looked;
            }

            pub reads-behind : (count size : ℕ) → count ≡ bitmap_count block → size ≡ stated_size block
                → IndexLiesWithin index (length old.image) → HasNonePast index
                → ReadsBehind home index (bitmap_at (take count (drop 1 first)) size) old new
            reads-behind count size count_is size_is lies none = record {
              lie = record {
                index_lies = lies;
                bitmap_lies = λ i below. all-places i 0 below;
                some = omega (arith, places, count_is, control.some_bitmap);
                few = omega (arith, places, count_is, control.few_bitmap);
                sized = omega (arith, size_is, control.some_blocks);
                covered = omega (arith, places, count_is, size_is, control.covered);
                on_device = omega (arith, size_is, control.on_device);
              };
              behind = λ honest. record {
                indexed = indexed honest;
                own_files = own honest;
                file = file honest;
                control = has-control control honest;
                none_past = subst HasNonePast (known honest).index_is none;
                index_is = (known honest).index_is;
                bitmap_is = same-bitmap honest;
              };
              looked = all-looked;
            }
              where
                places : length (take count (drop 1 first)) ≡ count
                places = omega (arith, length-take count (drop 1 first), length-drop 1 first, count_is, control.in_file)

                all-places : All (λ l. l < length old.image) (take count (drop 1 first))
                all-places =
                    let split : first ≡ take 1 first ++ drop 1 first = sym (take-append-drop 1 first) in
                    all-take (λ l. l < length old.image) count (drop 1 first)
                    (all-back (λ l. l < length old.image) (take 1 first) (drop 1 first)
                    (subst (All (λ l. l < length old.image)) split within))

                same-bitmap : IsTrue old.honest → bitmap_at (take count (drop 1 first)) size ≡ storage_bitmap old.image home
                same-bitmap honest =
                    bitmap-same old.image home count size first block count_is size_is (are honest) (block-is honest)
                    (omega (arith, count_is, control.few_bitmap))

-- the parts one after another
module _ (home : HomeFields) (index : Index) (old d1 : Disk) (known : IsTrue old.honest → IsIndexOf old.image home index)
    (e : JudgesEarlier index home.lbn true old d1) where
  indexed_is : IsTrue old.honest → HasIndexFile old.image home
  indexed_is = good-earlier home index old known old 0 (looked_none old) d1 e

  pub own-fault : (n : ℕ) (d2 : Disk) → FindsNoOwnFile index n d1 d2 → FindsBehind home 3 n old d2
  own-fault n d2 finds = bad-own home index old known d1 256 e.looked indexed_is n d2 (omega arith) finds

  module _ (d2 : Disk) (o : FindsOwnFiles index d1 d2) where
    own_is : IsTrue old.honest → HasOwnFiles old.image home
    own_is = good-own home index old known d1 256 e.looked indexed_is d2 o

    looked_two : Looked old d2 259 0
    looked_two = looked_within (looked_more e.looked o.looked) (omega arith)

    pub bitmap-fault : (d3 : Disk) → FindsNoBitmapFile index d2 d3 → FindsBehind home 4 0 old d3
    bitmap-fault d3 finds = bad-bitmap home index old known d2 259 looked_two indexed_is own_is d3 (omega arith) finds

    module _ (first : List ℕ) (d3 : Disk) (b : ReadsBitmapFile index first d2 d3) where
      pub empty-fault : length first ≡ 0 → FindsBehind home 4 0 old d3
      empty-fault empty = no-block home index old known d2 259 looked_two indexed_is own_is first d3 (omega arith) empty b

      looked_three : Looked old d3 515 0
      looked_three = looked_within (looked_more looked_two b.looked) (omega arith)

      module _ (some : length first ≢ 0) (lbn : ℕ) (block : List ℕ) (d4 : Disk) (at : lbn ≡ slice_index first 0)
          (counts : d4 ≡ with_transfer true d3)
          (gives : IsTrue d3.honest → slice_get d3.image lbn ≡ Some block) (file device : ℕ) (file_is : file ≡ length first)
          (device_is : device ≡ length d4.image) where
        file_has : IsTrue old.honest → HasBitmapFile old.image home
        file_has = good-bitmap home index old known d2 259 looked_two indexed_is own_is first d2 some first_b
          where
            first_b : ReadsBitmapFile index first d2 d2
            first_b =
                record {
                  sound = b.sound;
                  first_are = b.first_are;
                  within = b.within;
                  few = b.few;
                  looked = looked_within (looked_none d2) (omega arith);
                }

        device_was : device ≡ length old.image
        device_was = device_is ∙ ap (λ (d : Disk). length d.image) counts ∙ ap (λ (i : Image). length i) looked_three.image

        judged : IsControlBlock block file device → IsControlBlock block (length first) (length old.image)
        judged is =
            subst (λ (n : ℕ). IsControlBlock block (length first) n) device_was
            (subst (λ (n : ℕ). IsControlBlock block n device) file_is is)

        first_is : IsTrue old.honest → first ≡ needed (bitmap_file (table_of old.image home))
        first_is = first-are home index old known d2 259 looked_two indexed_is own_is first d3 b

        on_disk : All (λ l. l < length old.image) first
        on_disk = on-device home index old known d2 259 looked_two indexed_is own_is first d3 b

        pub control-fault : ¬ IsControlBlock block file device → FindsBehind home 5 0 old d4
        control-fault not =
            bad-control home index old known d3 515 looked_three indexed_is own_is file_has first first_is on_disk lbn block d4 at counts
            gives (omega arith)
            (λ is. not (subst (λ (n : ℕ). IsControlBlock block n device) (sym file_is)
            (subst (λ (n : ℕ). IsControlBlock block (length first) n) (sym device_was) is)))

        pub past-fault : IsControlBlock block file device → (n : ℕ) → IsFirstPast index n → FindsBehind home 6 n old d4
        past-fault control n past =
            bad-past home index old known d3 515 looked_three indexed_is own_is file_has first first_is on_disk lbn block d4 at counts gives
            (omega arith) (judged control) n past

        pub behind-read : IsControlBlock block file device → (count size : ℕ) → count ≡ bitmap_count block → size ≡ stated_size block
            → IndexLiesWithin index (length old.image) → HasNonePast index
            → ReadsBehind home index (bitmap_at (take count (drop 1 first)) size) old d4
        behind-read control count size count_is size_is lies none =
            reads-behind home index old known d3 515 looked_three indexed_is own_is file_has first first_is on_disk lbn block d4 at counts
            gives (omega arith) (judged control) count size count_is size_is lies none

-- there is no home block
pub no-home : (old new : Disk) → FindsNoHome old new → FindsFrameFault 1 0 old new
no-home old new finds = record { fault = λ honest. no_home (finds.has_none honest); looked = looked_within finds.looked (omega arith) }

-- the candidates up to the home block are some of all
enough : (lbn n : ℕ) → lbn < n → 16 ≤ n → lbn / 256 + 1 ≤ candidates n
enough lbn n below some = grind (arith, nat_tests)

-- it was found
module _ (home : HomeFields) (old now : Disk) (finds : FindsHome old now home) where
  home-looked : Looked old now (candidates (length old.image)) 0
  home-looked =
      looked_within finds.looked
      (enough home.lbn (length old.image) finds.sound.within (omega (arith, finds.sound.valid.fields.index_within)))

  small : home.index_blocks ≤ 16
  small = omega (arith, ap (λ (h : HomeFields). h.index_blocks) finds.sound.fields, finds.sound.valid.fields.small_bitmap)

  pub misplaced : (new : Disk) → FindsMisplaced home now new → FindsFrameFault 2 0 old new
  misplaced new bad = record {
    fault = λ honest. behind_home home 2 0 (finds.is_home honest) (index_misplaced (λ has.
        subst (λ (image : Image). ¬ IsIndexFile image home) finds.looked.image (bad.misplaced (finds.looked.honest ∙ honest)) has.file));
    looked = looked_within (looked_more home-looked bad.looked.looked) (omega (arith, bad.looked.few, small));
  }

  -- and the index file was read
  module _ (kept : Index) (then : Disk) (reads : ReadsIndex home kept now then) (new : Disk) where
    looked_then : Looked old then (candidates (length old.image) + 272) 0
    looked_then = looked_within (looked_more home-looked reads.looked.looked) (omega (arith, reads.looked.few, small))

    still-then : IsTrue old.honest → IsTrue then.honest
    still-then honest = looked_then.honest ∙ honest

    frame-fault : (code a : ℕ) → FindsBehind home code a then new → FindsFrameFault code a old new
    frame-fault code a bad = record {
      fault = λ honest. behind_home home code a (finds.is_home honest)
          (subst (λ (image : Image). IsFaultBehindHome image home code a) looked_then.image (bad.fault (still-then honest)));
      looked = looked_within (looked_more looked_then bad.looked) (omega arith);
    }

    frame-read : (index : Index) (bitmap : Bitmap) → ReadsBehind home index bitmap then new → ReadsFrame index bitmap old new
    frame-read index bitmap read = record {
      home = home;
      lie = subst (λ (image : Image). LieOn index bitmap (length image)) looked_then.image read.lie;
      are = λ honest.
          let is = subst (λ (image : Image). IsBehindHome image home index bitmap) looked_then.image (read.behind (still-then honest)) in
          record {
            framed = record {
              home_is = finds.is_home honest;
              indexed = is.indexed;
              own_files = is.own_files;
              bitmap = is.file;
              control = is.control;
              none_past = is.none_past;
            };
            index_is = is.index_is;
            bitmap_is = is.bitmap_is;
          };
      looked = looked_within (looked_more looked_then read.looked) (omega arith);
    }

    frames-one : (framing : Framing) → FramesBehind home framing then new → Frames framing old new
    frames-one (Framed frame) is = frame-read (frame_index frame) (frame_bitmap frame) is
    frames-one (Faulty code a) is = frame-fault code a is

    pub frames-on : {E : Type 0} (r : Result Framing E) → IfOk r (λ framing. FramesBehind home framing then new)
        → IfOk r (λ framing. Frames framing old new)
    frames-on (Ok framing) is = frames-one framing is
    frames-on (Err fault) is = is
