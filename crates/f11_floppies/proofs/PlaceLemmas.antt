-- Where the bytes of blocks are in an image in sector order.
use Rattle.std.proofs.Common.{◌≡◌, ℕ, ◌+◌, ◌-◌, ◌*◌, ◌/◌, ◌%◌, ◌<◌, ◌≤◌, refl, ap, ◌∙◌, arith}
use Rattle.f11_floppies.specs.Order.{block_count, image_size, interleaved, place, sector_bytes, sector_count, sectors_of_block, start_of}
use Rattle.f11_floppies.specs.Order.{unused_bytes}
use Rattle.f11_floppies.specs.declared.order.Order.{Order}
use Rattle.f11_floppies.specs.declared.order.Order.TheVariants.{Rx01, Rx02, Rx50}

-- logical sectors of one track are different sectors of it
apart-26 : (l m : ℕ) → l / 26 ≡ m / 26 → interleaved 26 6 l ≡ interleaved 26 6 m → l ≡ m
apart-26 l m track sector = grind arith

apart-10 : (l m : ℕ) → l / 10 ≡ m / 10 → interleaved 10 2 l ≡ interleaved 10 2 m → l ≡ m
apart-10 l m track sector = grind arith

-- logical sectors begin at different places
apart-starts : (order : Order) (l m : ℕ) → l < sector_count order → m < sector_count order
    → start_of order l ≡ start_of order m → l ≡ m
apart-starts Rx01 l m below below' same = apart-26 l m (omega arith) (omega arith)
apart-starts Rx02 l m below below' same = apart-26 l m (omega arith) (omega arith)
apart-starts Rx50 l m below below' same = apart-10 l m (omega arith) (omega arith)

-- so bytes of blocks stand at different places,
pub places-apart : (order : Order) (b c i j : ℕ) → b < block_count order → c < block_count order → i < 512 → j < 512
    → place order b i ≡ place order c j → (b ≡ c) × (i ≡ j)
places-apart Rx01 b c i j below below' in_block in_block' same =
    let sectors : 4 * b + i / 128 ≡ 4 * c + j / 128 = apart-starts Rx01 (4 * b + i / 128) (4 * c + j / 128) (omega arith) (omega arith)
    (omega arith) in omega arith
places-apart Rx02 b c i j below below' in_block in_block' same =
    let sectors : 2 * b + i / 256 ≡ 2 * c + j / 256 = apart-starts Rx02 (2 * b + i / 256) (2 * c + j / 256) (omega arith) (omega arith)
    (omega arith) in omega arith
places-apart Rx50 b c i j below below' in_block in_block' same =
    let sectors : 1 * b + i / 512 ≡ 1 * c + j / 512 = apart-starts Rx50 (1 * b + i / 512) (1 * c + j / 512) (omega arith) (omega arith)
    (omega arith) in omega arith

-- which are in the image,
pub places-within : (order : Order) (b i : ℕ) → b < block_count order → i < 512 → place order b i < image_size order
places-within Rx01 b i below in_block = omega arith
places-within Rx02 b i below in_block = omega arith
places-within Rx50 b i below in_block = omega arith

-- and behind a track 0 that isn't used
pub places-behind : (order : Order) (b i : ℕ) → b < block_count order → i < 512 → unused_bytes order ≤ place order b i
places-behind Rx01 b i below in_block = omega arith
places-behind Rx02 b i below in_block = omega arith
places-behind Rx50 b i below in_block = omega arith

-- the bytes of one of a block's sectors stand in it one after another
in-sector : (i j k r : ℕ) (at : ℕ → ℕ) → j ≡ k → r ≡ i → at j + r ≡ at k + i
in-sector i j k r at sector byte = ap (λ (q : ℕ). at q + r) sector ∙ ap (λ (q : ℕ). at k + q) byte

pub place-in_sector : (order : Order) (lbn k i : ℕ) → sector_bytes order * k ≤ i → i < sector_bytes order * k + sector_bytes order
    → place order lbn i ≡ start_of order (sectors_of_block order * lbn + k) + (i - sector_bytes order * k)
place-in_sector Rx01 lbn k i from to =
    in-sector (i - 128 * k) (i / 128) k (i % 128) (λ q. start_of Rx01 (4 * lbn + q)) (omega arith) (omega arith)
place-in_sector Rx02 lbn k i from to =
    in-sector (i - 256 * k) (i / 256) k (i % 256) (λ q. start_of Rx02 (2 * lbn + q)) (omega arith) (omega arith)
place-in_sector Rx50 lbn k i from to =
    in-sector (i - 512 * k) (i / 512) k (i % 512) (λ q. start_of Rx50 (1 * lbn + q)) (omega arith) (omega arith)

-- a block has room for its sectors,
pub sector-fits : (order : Order) (k : ℕ) → k < sectors_of_block order → sector_bytes order * k + sector_bytes order ≤ 512
sector-fits Rx01 k below = omega arith
sector-fits Rx02 k below = omega arith
sector-fits Rx50 k below = omega arith

-- and is full of them
pub sectors-fill : (order : Order) → sector_bytes order * sectors_of_block order ≡ 512
sectors-fill Rx01 = refl
sectors-fill Rx02 = refl
sectors-fill Rx50 = refl

-- sectors of blocks are logical sectors
pub sector-is_logical : (order : Order) (lbn k : ℕ) → lbn < block_count order → k < sectors_of_block order
    → sectors_of_block order * lbn + k < sector_count order
sector-is_logical Rx01 lbn k below sector = omega arith
sector-is_logical Rx02 lbn k below sector = omega arith
sector-is_logical Rx50 lbn k below sector = omega arith

-- how far the next one goes
pub next-sector : (order : Order) (k : ℕ) → sector_bytes order * (k + 1) ≡ sector_bytes order * k + sector_bytes order
next-sector Rx01 k = omega arith
next-sector Rx02 k = omega arith
next-sector Rx50 k = omega arith
