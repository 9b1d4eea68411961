-- A request in one piece.
use Rattle.std.specs.Prelude.{ℕ, List, ◌++◌, codes}

-- the request for a path on a host
abbrev pub flat_request : List ℕ → List ℕ → List ℕ
flat_request path host =
    codes "GET " ++ path ++ codes " HTTP/1.1\r\nHost: " ++ host
    ++ codes "\r\nAccept-Encoding: identity\r\nConnection: close\r\n\r\n"
