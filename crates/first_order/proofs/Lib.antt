pub mod NearestLaws
pub mod ExchangeLaws
pub mod FirstLaws
