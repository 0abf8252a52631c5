-- TABLE, MAPPING and a file's name, as docs/BENCH.md describes them. Bytes are ASCII codes: ',' is 44, ':' 58, '0' 48 and '1' 49.
use Rattle.std.specs.Prelude.{ℕ, ◌-◌, Bool, true, false, cond, ◌||◌, List, [], ◌∷◌, length, drop, ◌==◌, nat_le, nat_lt, slice_index, Option, None, Some}
use Rattle.isdbs_tables.specs.declared.Entry.{Entry}
use Rattle.isdbs_tables.specs.declared.Table.{Table}
use Rattle.isdbs_points.specs.declared.Mapping.{Mapping}
use Rattle.bench_split.specs.Parts.{part_of, parts_of, equal}
use Rattle.bench_line.specs.Numbers.{digits_of}

-- "Other words up to 15"; a slot count has 8 bits
abbrev pub entry_from : Option ℕ → Option ℕ → Option Entry
entry_from None n = None
entry_from (Some w) None = None
entry_from (Some w) (Some n) = cond (nat_le w 15) (cond (nat_le n 255) (Some (record { word = w; slots = n })) None) None

-- "`word:slots`"
unfoldable pub entry_of : List ℕ → Option Entry
entry_of s = cond (parts_of 58 s == 2) (entry_from (digits_of (part_of 58 s 0)) (digits_of (part_of 58 s 1))) None

-- "missing ones are unused": word 15 and no slots
abbrev pub unused : Entry
unused = record { word = 15; slots = 0 }

unfoldable pub entry_at : List ℕ → ℕ → Option Entry
entry_at s i = cond (nat_lt i (parts_of 44 s)) (entry_of (part_of 44 s i)) (Some unused)

abbrev pub four : Entry → Entry → Entry → Entry → Option Table
four x y z w = Some (record { entries = x ∷ y ∷ z ∷ w ∷ [] })

abbrev pub no_table : Option Table
no_table = None

abbrev pub table_from : Option Entry → Option Entry → Option Entry → Option Entry → Option Table
table_from None b c d = no_table
table_from (Some x) None c d = no_table
table_from (Some x) (Some y) None d = no_table
table_from (Some x) (Some y) (Some z) None = no_table
table_from (Some x) (Some y) (Some z) (Some w) = four x y z w

-- "`word:slots` entries joined by commas, up to four"
unfoldable pub table_of : List ℕ → Option Table
table_of s = cond (nat_le (parts_of 44 s) 4) (table_from (entry_at s 0) (entry_at s 1) (entry_at s 2) (entry_at s 3)) no_table

unfoldable pub is_flag : ℕ → Bool
is_flag b = b == 48 || b == 49

abbrev pub mapping_from : ℕ → ℕ → ℕ → Option Mapping
mapping_from a b c =
    cond (is_flag a)
    (cond (is_flag b)
    (cond (is_flag c)
    (Some (record { conjugate = (a == 49); qpsk_p1_on_q = (b == 49); tc8psk_c1_is_y = (c == 49) }))
    None)
    None)
    None

-- "three digits 0 or 1: conjugate, qpsk_p1_on_q, tc8psk_c1_is_y"
abbrev pub mapping_of : List ℕ → Option Mapping
mapping_of s = cond (length s == 3) (mapping_from (slice_index s 0) (slice_index s 1) (slice_index s 2)) None

-- "A name that ends in `.cf32`"
abbrev pub narrow_name : List ℕ → Bool
narrow_name s = cond (nat_lt (length s) 5) false (equal (drop (length s - 5) s) (46 ∷ 99 ∷ 102 ∷ 51 ∷ 50 ∷ []))
