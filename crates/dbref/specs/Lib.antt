-- What DBREF, DBREF1 and DBREF2 hold.
pub mod Dbref
