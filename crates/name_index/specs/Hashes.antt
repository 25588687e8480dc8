-- A hash of a name: any function of its bytes would do, and this one sends few names to one number. Assumes nothing.
use Rattle.std.specs.Prelude.{cond, List, ℕ, ◌+◌, ◌-◌, ◌*◌, ◌/◌, ◌%◌, leb, length, get_or}
use Rattle.language.specs.Table.{four, eight}

-- how many hashes, and chains, there are
abbrev pub heads : ℕ
heads = 512

-- The last eight bytes; of fewer all, some of them twice.
unfoldable pub end_of : List ℕ → ℕ
end_of name =
    let n = length name in
    cond (leb 8 n) (eight name (n - 8))
    (cond (leb 4 n) (four name 0 + 4294967296 * four name (n - 4))
    (cond (leb 1 n) (get_or name 0 0 + 256 * get_or name (n / 2) 0 + 65536 * get_or name (n - 1) 0) 0))

-- Two products whose high bits all of the eight bytes reach.
unfoldable pub end_hash : ℕ → ℕ
end_hash x = (x % 4294967296 * 625341585 + x / 4294967296 * 1013904243) / 2147483648 % heads

abbrev pub hash_of : List ℕ → ℕ
hash_of name = end_hash (end_of name)
