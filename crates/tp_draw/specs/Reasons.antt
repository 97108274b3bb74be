-- Why an event was refused, or a record dropped, in words.
use Rattle.std.specs.Prelude.{ℕ, ◌==◌, if◌then◌else◌, List, codes}

-- by the number of the refusal
abbrev pub reason : ℕ → List ℕ
reason n =
    if n == 1 then codes "no dialogue"
    else if n == 2 then codes "wrong phase"
    else if n == 3 then codes "wrong control"
    else if n == 4 then codes "unit absent"
    else if n == 5 then codes "handshake open"
    else if n == 6 then codes "no transaction"
    else if n == 7 then codes "transaction open"
    else if n == 8 then codes "not asked"
    else if n == 9 then codes "already asked"
    else if n == 10 then codes "not in ready"
    else if n == 11 then codes "already decided"
    else if n == 12 then codes "nothing owed"
    else if n == 13 then codes "too many"
    else if n == 14 then codes "not kept"
    else if n == 15 then codes "still owed"
    else if n == 16 then codes "no node"
    else if n == 17 then codes "numbers spent"
    else if n == 21 then codes "old association"
    else if n == 22 then codes "out of order"
    else if n == 23 then codes "wrong site"
    else if n == 24 then codes "out of phase"
    else codes "bad record"
