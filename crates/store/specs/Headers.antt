-- The headers of the kept sessions, by their places.
use Rattle.std.specs.Prelude.{List}
use Rattle.fixed_vec.specs.Items.{items_of}
use Rattle.store.specs.declared.header.Header.{Header}
use Rattle.store.specs.declared.headers.Headers.{Headers}

abbrev pub headers_in : Headers → List Header
headers_in hs = items_of hs.list
