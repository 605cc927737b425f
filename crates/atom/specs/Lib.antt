-- What ATOM, HETATM and ANISOU hold.
pub mod Atom
