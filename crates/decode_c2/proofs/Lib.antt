pub mod PointMade
